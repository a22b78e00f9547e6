-- A table's text, character by character.
use Rattle.std.proofs.Common.{◌≡◌, ℕ, suc, ◌+◌, ◌*◌, ◌^◌, ◌<◌, List, ◌∷◌, length, map, drop, get_or, arith, ap, ◌∙◌, drop-cons, add-one}
use Rattle.std.proofs.Math.Nat.{pow-suc}
use Rattle.std.specs.List.{list_all}
use Rattle.eco_func.specs.Tables.{row}
use Rattle.eco_func.specs.FunctionsFile.{is_bit, is_one}

-- the bits so far, with those of the rest above them, are the bits of the text
pub record Read (text : List ℕ) (bits place : ℕ) : Type 0 where
  pub checked : list_all is_bit text ≡ list_all is_bit (drop place text)
  pub value : row (map is_one text) ≡ bits + 2 ^ place * row (map is_one (drop place text))
  pub fits : bits < 2 ^ place

-- what is left begins with the next character
pub at_place : (text : List ℕ) (place c : ℕ) → place < length text → get_or text place 0 ≡ c → drop place text ≡ c ∷ drop (place + 1) text
at_place text place c h e = rw add-one (drop-cons text place 0 h ∙ ap (λ x. x ∷ drop (suc place) text) e)

doubled : (place : ℕ) → 2 ^ (place + 1) ≡ 2 ^ place * 2
doubled place = rw add-one (pow-suc 2 place)

pub read_zero : (text : List ℕ) (bits place : ℕ) → drop place text ≡ 48 ∷ drop (place + 1) text → Read text bits place → Read text bits (place + 1)
read_zero text bits place e r = record {
  checked = r.checked ∙ ap (list_all is_bit) e;
  value =
      let left = row (map is_one (drop (place + 1) text)) in
      let v : row (map is_one text) ≡ bits + 2 ^ place * (0 + 2 * left) = r.value ∙ ap (λ l. bits + 2 ^ place * row (map is_one l)) e in
      omega (arith, v, ap (λ p. p * left) (doubled place));
  fits = omega (arith, r.fits, doubled place);
}

pub read_one : (text : List ℕ) (bits place : ℕ) → drop place text ≡ 49 ∷ drop (place + 1) text → Read text bits place → Read text (bits + 2 ^ place) (place + 1)
read_one text bits place e r = record {
  checked = r.checked ∙ ap (list_all is_bit) e;
  value =
      let left = row (map is_one (drop (place + 1) text)) in
      let v : row (map is_one text) ≡ bits + 2 ^ place * (1 + 2 * left) = r.value ∙ ap (λ l. bits + 2 ^ place * row (map is_one l)) e in
      omega (arith, v, ap (λ p. p * left) (doubled place));
  fits = omega (arith, r.fits, doubled place);
}

-- Names that are known are those that have stood.
use Rattle.std.specs.Borrow.{Bor}
use Rattle.std.specs.HashMap.{HashMap}
use Rattle.std.specs.declared.hash.FoldHasher.{FoldHasher}
use Rattle.std.specs.declared.hash.BuildHasherDefault.{BuildHasherDefault}
use Rattle.std.specs.Str.{bytes_eq}
use Rattle.std.proofs.Common.{◌≡◌, ℕ, Bool, true, false, ◌||◌, List, [], ◌∷◌, ◌++◌, Result, refl, ap, sym, subst, ◌∙◌, if◌then◌else◌}
use Rattle.std.proofs.Math.Path.{fun_ext}
use Rattle.std.proofs.lemmas.List.Folds.{list_any-append}
use Rattle.eco_def.specs.declared.fault.DefFault.{DefFault}
use Rattle.eco_common.specs.KnownNames.{knows, Adds}
use Rattle.eco_def.specs.Parsing.{Parser}
use Rattle.eco_common.specs.NameBytes.{is_among}
use Rattle.eco_def.specs.Reading.{Reading, Reads}

or_if : (a b : Bool) → (if a then true else b) ≡ (b || (a || false))
or_if true true = refl
or_if true false = refl
or_if false true = refl
or_if false false = refl

-- one more name
pub known_more : (old new : HashMap (Bor (List ℕ)) (Unit {0}) (BuildHasherDefault FoldHasher)) (ns ms : List (List ℕ)) (n : List ℕ) → ms ≡ ns ++ n ∷ [] →
    ((q : List ℕ) → knows old q ≡ is_among ns q) → Adds old new n → (q : List ℕ) → knows new q ≡ is_among ms q
known_more old new ns ms n is known adds q =
    adds q ∙ ap (λ b. if bytes_eq n q then true else b) (known q) ∙ or_if (bytes_eq n q) (is_among ns q)
    ∙ sym (list_any-append (λ m. bytes_eq m q) ns (n ∷ [])) ∙ ap (λ ks. is_among ks q) (sym is)

-- what is read with the known names, and with so much room, is read with those that have stood and with the same room
pub read_known_in : {A B R : Type 0} (n : ℕ) (view : List ℕ → B → A) (item : R → (List ℕ → Bool) → Parser A) (names : HashMap (Bor (List ℕ)) (Unit {0}) (BuildHasherDefault FoldHasher)) (ns : List (List ℕ)) (old new : Reading) (r : Result B DefFault) (room same : R) →
    room ≡ same → ((q : List ℕ) → knows names q ≡ is_among ns q) → Reads n view (item room (knows names)) old new r → Reads n view (item same (is_among ns)) old new r
read_known_in n view item names ns old new r room same is known reads =
    subst (λ k. Reads n view (item same k) old new r) (fun_ext known) (subst (λ k. Reads n view (item k (knows names)) old new r) is reads)

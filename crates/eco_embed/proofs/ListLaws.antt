-- Rows as lists of bits.
use Rattle.std.proofs.Common.{◌≡◌, ◌^◌, ◌<◌, ◌≤◌, Bool, true, false, cond, List, [], ◌∷◌, length, map, refl, ap, ◌∙◌, sym, subst, arith}
use Rattle.std.proofs.Math.Nat.{pow-suc}
use Rattle.std.proofs.lemmas.Nat.{pow_pos}
use Rattle.eco_func.specs.Tables.{TruthTable, row, look}
use Rattle.eco_func.proofs.RowLaws.{bit_of_row}
use Rattle.eco_embed.specs.declared.feed.Feed.{Feed}
use Rattle.eco_embed.specs.declared.feed.Feed.TheVariants.{Zero, One, Input}
use Rattle.eco_embed.specs.Feeds.{feed_bit, feed_value}
use Rattle.eco_embed.specs.Embeddings.{Serves}

bit_most : (b : Bool) → cond b 1 0 ≤ 1
bit_most true = omega arith
bit_most false = omega arith

row_below : (bits : List Bool) → row bits < 2 ^ length bits
row_below [] = omega (arith, pow_pos 0)
row_below (b ∷ bits) = omega (arith, row_below bits, bit_most b, pow-suc 2 (length bits))

one_value : (bits : List Bool) (f : Feed) → feed_bit (row bits) f ≡ feed_value bits f
one_value bits Zero = refl
one_value bits One = refl
one_value bits (Input i) = bit_of_row bits i

all_values : (bits : List Bool) (feeds : List Feed) → map (feed_bit (row bits)) feeds ≡ map (feed_value bits) feeds
all_values bits [] = refl
all_values bits (f ∷ feeds) = ap (λ b. b ∷ map (feed_bit (row bits)) feeds) (one_value bits f) ∙ ap (λ bs. feed_value bits f ∷ bs) (all_values bits feeds)

pub all_bits : (want table : TruthTable) (feeds : List Feed) → Serves want table feeds → (bits : List Bool) → length bits ≡ want.inputs → look table (map (feed_value bits) feeds) ≡ look want bits
all_bits want table feeds s bits count =
    ap (look table) (sym (all_values bits feeds)) ∙ s.computes (row bits) (subst (λ n. row bits < 2 ^ n) count (row_below bits))

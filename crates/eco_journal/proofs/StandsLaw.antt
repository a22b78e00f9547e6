-- `StandsOver` over two runs, one after another.
use Rattle.std.proofs.Common.{◌≤◌, inl, inr, ℕ, List, [], ◌∷◌, ◌++◌, subst, sym, append_assoc, arith}
use Rattle.std.proofs.lemmas.Bool.{cases_lt}
use Rattle.std.proofs.lemmas.List.{append-nil}
use Rattle.std.specs.Prelude.{Contains}
use Rattle.eco_disk.specs.Disk.{During}
use Rattle.eco_journal.specs.Layout.{Stores}
use Rattle.eco_journal.specs.Unfinished.{StoresOr}
use Rattle.eco_journal.specs.StandsOver.{Rests, StandsOver}

module _ {C : Type 0} (Opens : List ℕ → List C → Type 0) (image : ℕ → List ℕ → Type 0) (begun : List C) where
  rests_then : (a b c : ℕ) (book : List C) → Rests Opens image a b book begun → Rests Opens image b c book begun → Rests Opens image a c book begun
  rests_then a b c book first second t x from to now = elim (cases_lt t b) [
    | inl early ↦ first t x from (omega (arith, early)) now
    | inr late ↦ second t x late to now
  ]

  rests_stands : (a b c : ℕ) (book more : List C) → a ≤ b → b ≤ c → Rests Opens image a b book begun → StandsOver Opens image b c book more begun → StandsOver Opens image a c book more begun
  rests_stands a b c book [] ab bc first second = rests_then a b c book first second
  rests_stands a b c book (call ∷ more) ab bc first second =
      (second.0, omega (arith, ab, second.1), second.2, rests_then a b second.0 book first second.3, second.4)

  pub stands_then : (a b c : ℕ) (book calls more : List C) → a ≤ b → b ≤ c → StandsOver Opens image a b book calls begun → StandsOver Opens image b c (book ++ calls) more begun → StandsOver Opens image a c book (calls ++ more) begun
  stands_then a b c book [] more ab bc first second =
      rests_stands a b c book more ab bc first (subst (λ l. StandsOver Opens image b c l more begun) (append-nil book) second)
  stands_then a b c book (call ∷ calls) more ab bc first second = (
    first.0,
    first.1,
    omega (arith, first.2, bc),
    first.3,
    stands_then first.0 b c (book ++ call ∷ []) calls more first.2 bc first.4
        (subst (λ l. StandsOver Opens image b c l more begun) (sym (append_assoc book (call ∷ []) calls)) second),
  )

-- images of moments that have passed stay, so a run that stood still stands
pub stands_later : {C : Type 0} (Opens : List ℕ → List C → Type 0) (before now : ℕ → List ℕ → Type 0) (begun : List C) (a b : ℕ) (book calls : List C) → ((t : ℕ) (c : List ℕ) → t ≤ b → now t c → before t c)
    → StandsOver Opens before a b book calls begun → StandsOver Opens now a b book calls begun
stands_later Opens before now begun a b book [] stays stands = λ t x from to is. stands t x from to (stays t x to is)
stands_later Opens before now begun a b book (call ∷ calls) stays stands =
    (stands.0, stands.1, stands.2, λ t x from to is. stands.3 t x from to (stays t x (omega (arith, to, stands.2)) is), stands_later Opens before now begun stands.0 b (book ++ call ∷ []) calls stays stands.4)

-- one call of an office: the images have its book, or that and the call; at its end they have it
module _ {C : Type 0} (Opens : List ℕ → List C → Type 0) (digest : List ℕ) (payloads : List (List ℕ)) (payload : List ℕ) (book : List C) (call : C)
    (without : (c : List ℕ) → Stores digest payloads c → Opens c book) (with_it : (c : List ℕ) → Stores digest (payloads ++ payload ∷ []) c → Opens c (book ++ call ∷ [])) where
  pub begun_rests : {X Y : ℕ → List ℕ → Type 0} {a b : ℕ} (begun : List C) → Contains begun call → During a b X Y (StoresOr digest payloads payload) → Rests Opens Y a b book begun
  begun_rests begun among during t c from to now = elim (during.each t c from to now).stores [
    | inl one ↦ inl (without c one)
    | inr two ↦ inr (call, among, with_it c two)
  ]

  pub accepted_stands : {X Y : ℕ → List ℕ → Type 0} {a b : ℕ} (begun : List C) → Contains begun call → During a b X Y (StoresOr digest payloads payload) → ((c : List ℕ) → Y b c → Stores digest (payloads ++ payload ∷ []) c)
      → StandsOver Opens Y a b book (call ∷ []) begun
  accepted_stands {X} {Y} {a} {b} begun among during after =
      (b, during.later, omega arith, begun_rests begun among during, λ t c from to now. inl (with_it c (after c (subst (λ m. Y m c) (omega (arith, from, to)) now))))

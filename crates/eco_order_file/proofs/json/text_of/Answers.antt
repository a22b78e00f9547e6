use Rattle.std.proofs.Common.{◌≡◌, Bool, true, false, List, ℕ, cond, Option, Some, None, refl, sym, ap}
use Rattle.std.specs.Str.{is_utf8, IsUtf8}
use Rattle.std.proofs.lemmas.Str.{IsUtf8-from_is_utf8, is_utf8-from_IsUtf8}
use Rattle.eco_order_file.proofs.json.text_of.Goals as goal

is_text : (bs s : List ℕ) → s ≡ bs → IsUtf8 bs → Some s ≡ cond (is_utf8 bs) (Some bs) None
is_text bs s e u = rw (is_utf8-from_IsUtf8 bs u) (ap Some e)

no_text : (bs : List ℕ) → (IsUtf8 bs → ⊥) → None ≡ cond (is_utf8 bs) (Some bs) None
no_text bs n = go (is_utf8 bs) refl
  where
    go : (b : Bool) → is_utf8 bs ≡ b → None ≡ cond b (Some bs) None
    go true e = absurd (n (IsUtf8-from_is_utf8 bs e))
    go false e = refl

pub returns-in-Ok : goal.returns-in-Ok
returns-in-Ok c = is_text c.args.bytes.now c.in-Ok.text.now c.in-Ok.ensures.cases.0 c.in-Ok.ensures.cases.1

pub returns-in-Err : goal.returns-in-Err
returns-in-Err c = no_text c.args.bytes.now c.in-Err.ensures.cases.0

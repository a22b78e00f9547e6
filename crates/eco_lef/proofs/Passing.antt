-- Words that are passed over.
use Rattle.std.proofs.Common.{◌≡◌, ℕ, List, Bool, true, false, Ok, Err, refl, sym, codes, ◌∙◌}
use Rattle.eco_text.specs.Words.{Walk}
use Rattle.eco_lef.specs.declared.fault.LefFault.{LefFault}
use Rattle.eco_text.specs.Cursor.{token}
use Rattle.eco_text.specs.declared.word.Word.{Word}
use Rattle.eco_lef.specs.Grammar.{pass_block}
use Rattle.eco_lef.specs.Reading.{Reading, left, Reads, is_memory}
use Rattle.eco_text.proofs.Calls.{refuses_as, both_from, both_fails}
use Rattle.eco_text.specs.Tokens.{is_word, is_name}
use Rattle.eco_lef.specs.Parsing.{faults, begins, any, choose, unused_name, pass_to}

-- a name that isn't known, with room for it
pub unused_is : (inside : List ℕ) (known full : Bool) (u : Walk) → begins is_name u ≡ true → known ≡ false → full ≡ false → any inside u ≡ unused_name inside known full u
unused_is inside known full u named new room = rw (named, new, room) refl

-- the END that was found ends the block here, or the block goes on after it
pub block_goes_on : (block : List ℕ) (old new : Reading) (w : Word) → Reads 1 token (pass_to block (is_word (codes "END"))) old new (Ok w) → choose (is_word block) (any block) (pass_block block) (left new) ≡ pass_block block (left old)
block_goes_on block old new w reads = sym (both_from (faults block) (is_word (codes "END")) (is_word block) (left old) (token old.text w) (left new) reads.value)

pub not_ended : (block : List ℕ) (u : Walk) → begins (is_word block) u ≡ false → choose (is_word block) (any block) (pass_block block) u ≡ pass_block block u
not_ended block u off = rw off refl

-- no END is found
pub block_fails : (block : List ℕ) (start old new : Reading) (e : LefFault) → old.text ≡ start.text → pass_block block (left old) ≡ pass_block block (left start) → Reads 1 token (pass_to block (is_word (codes "END"))) old new (Err e) → Reads 1 token (pass_block block) start new (Err e)
block_fails block start old new e text same reads = record {
  text = reads.text ∙ text;
  shorter = tt;
  order = λ lo hi o. tt;
  value = refuses_as is_memory (pass_to block (is_word (codes "END")) (left old)) (pass_block block (left start)) e (λ k failed. sym same ∙ both_fails (faults block) (is_word (codes "END")) (is_word block) (left old) k failed) reads.value;
}

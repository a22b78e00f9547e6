-- The section of special nets, piece by piece.
use Rattle.std.proofs.Common.{ℕ, List, Some, Result, Ok, Err, ap, ◌∙◌, arith, codes}
use Rattle.eco_text.specs.Words.{Walk}
use Rattle.eco_text.specs.Cursor.{token}
use Rattle.eco_text.specs.declared.word.Word.{Word}
use Rattle.eco_def.specs.declared.design.NetStatement.{NetStatement}
use Rattle.eco_def.specs.declared.fault.DefFault.{DefFault}
use Rattle.eco_def.specs.declared.room.Room.{Room}
use Rattle.eco_def.specs.Design.{Net, Part, Special}
use Rattle.eco_def.specs.Parsing.{Parser, ◌>>=◌, then_read, give}
use Rattle.eco_def.specs.Grammar.{section_head, section_end, nets_within, special_section_within}
use Rattle.eco_def.specs.View.{nets_in}
use Rattle.eco_def.specs.Reading.{Reading, Reads, left, as_is}
use Rattle.eco_def.specs.Sections.{special_part}
use Rattle.eco_def.proofs.PassedOver.{refuses_as}

-- after its heading, and after its statements
abbrev tail : List Net → Parser Part
tail ns = section_end (codes "SPECIALNETS") >>= λ end. give (Special ns)

abbrev body : Room → Parser Part
body room = nets_within (Some room) >>= tail

pub special_stuck : (room : Room) (old mid new : Reading) (count : Word) (e : DefFault) →
    Reads 1 token (section_head (codes "SPECIALNETS")) old mid (Ok count) → Reads 0 nets_in (nets_within (Some room)) mid new (Err e) → Reads 1 special_part (special_section_within (Some room)) old new (Err e)
unfolding special_section_within
special_stuck room old mid new count e head nets = record {
  text = nets.text ∙ head.text;
  shorter = tt;
  order = λ lo hi o. tt;
  value = refuses_as (nets_within (Some room) (left mid)) (special_section_within (Some room) (left old)) e (λ k failed. ap (λ r. then_read r (λ count. body room)) head.value ∙ ap (λ r. then_read r tail) failed) nets.value;
}

pub special_read : (room : Room) (old mid behind new : Reading) (count : Word) (ss : List NetStatement) (end : ℕ) →
    Reads 1 token (section_head (codes "SPECIALNETS")) old mid (Ok count) → Reads 0 nets_in (nets_within (Some room)) mid behind (Ok ss) → Reads 1 as_is (section_end (codes "SPECIALNETS")) behind new (Ok end) → Reads 1 special_part (special_section_within (Some room)) old new (Ok ss)
unfolding special_section_within
special_read room old mid behind new count ss end head nets ends = record {
  text = ends.text ∙ nets.text ∙ head.text;
  shorter = omega (arith, ends.shorter, nets.shorter, head.shorter);
  order = λ lo hi o. ends.order lo hi (nets.order lo hi (head.order lo hi o));
  value = ap (λ r. then_read r (λ count. body room)) head.value ∙ ap (λ r. then_read r tail) nets.value
      ∙ ap (λ r. then_read r (λ end. give (Special (nets_in mid.text ss)))) ends.value
      ∙ ap (λ t. let x : Result (Part × Walk) DefFault = Ok (Special (nets_in t ss), left new) in x) head.text;
}

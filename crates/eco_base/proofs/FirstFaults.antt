-- The parts of what opening answers, by the texts as the code looks at them.
use Rattle.std.proofs.Common.{◌≡◌, ℕ, List, ◌++◌, ap, ◌∙◌, subst}
use Rattle.eco_base.specs.declared.fault.BaseFault.{BaseFault}
use Rattle.eco_base.specs.declared.stocked.Stocked.{Stocked}
use Rattle.eco_base.specs.declared.sources.Sources.{Sources}
use Rattle.sha2.specs.declared.Sha256.{Sha256}
use Rattle.sha2.specs.Hashers.{Holds256}
use Rattle.eco_base.specs.Digests.{framed, digest_of, digest_after}
use Rattle.eco_base.specs.Texts.{TextParts, AreRead, IsReadFrom}
use Rattle.eco_base.specs.Joined.{AreJoined}
use Rattle.eco_base.specs.Bases.{IsOpen}
use Rattle.eco_base.specs.Parts.{parts_of}
use Rattle.eco_base.specs.Stocked.{IsStocked}
use Rattle.eco_base.proofs.Hashing.{texts_go_on}
use Rattle.eco_base.specs.Opened.{IsFirstFault, IsFirstOf}

module _ (lef def functions desk : List ℕ) (l f d : List ℕ) (lef_is : l ≡ lef) (functions_are : f ≡ functions) (desk_is : d ≡ desk) where
  pub texts_first : (e : BaseFault) → IsFirstFault l def f d e → IsFirstFault lef def functions desk e
  texts_first e h =
      subst (λ z. IsFirstFault lef def functions z e) desk_is
      (subst (λ z. IsFirstFault lef def z d e) functions_are
      (subst (λ z. IsFirstFault z def f d e) lef_is h))

  pub read_same : (t : TextParts) → IsReadFrom l def f d t → IsReadFrom lef def functions desk t
  read_same t h =
      subst (λ z. IsReadFrom lef def functions z t) desk_is
      (subst (λ z. IsReadFrom lef def z d t) functions_are
      (subst (λ z. IsReadFrom z def f d t) lef_is h))

  pub parts_first : (t : TextParts) → IsReadFrom l def f d t → (e : BaseFault) → IsFirstOf t e → IsFirstFault lef def functions desk e
  parts_first t read e h = h lef def functions desk (read_same t read)

pub digest_known : (lef def functions desk : List ℕ) (t : TextParts) → IsReadFrom lef def functions desk t → (s : Sha256) → Holds256 s (framed lef) → digest_after s (framed t.text ++ framed functions ++ framed desk) ≡ digest_of lef def functions desk
digest_known lef def functions desk t read s held = texts_go_on s lef t.text functions desk held ∙ ap (λ text. digest_of lef text functions desk) read.text_is

pub open_is : (t : TextParts) → AreRead t → AreJoined t → (s : Stocked) → IsStocked t s → (from : Sources) → IsOpen (parts_of t s from)
open_is t read joined s stocked from = record {
  read = read;
  joined = joined;
  whole = stocked.whole;
  low_is = stocked.low_is;
  high_is = stocked.high_is;
  stock = stocked.stock;
  spares = stocked.spares;
  points = stocked.points;
  few = stocked.few;
  skipped = stocked.skipped;
  counted = stocked.counted;
  same = stocked.same;
  in_order = stocked.in_order;
  loop_free = stocked.loop_free;
  deep = stocked.deep;
}

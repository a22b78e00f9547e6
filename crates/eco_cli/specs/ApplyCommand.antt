-- What the command apply does.
use Rattle.std.specs.Prelude.{◌≡◌, ◌≢◌, ℕ, ◌+◌, List, [], ◌∷◌, map, length, codes, Some, Ok, Err}
use Rattle.eco_common.specs.declared.limits.TheConstants.{MAX_LEF_BYTES, MAX_DEF_BYTES, MAX_FUNCTIONS_BYTES, MAX_DESK_BYTES}
use Rattle.eco_func.specs.FunctionsFile.{table_of}
use Rattle.eco_func.specs.Tables.{TruthTable}
use Rattle.eco_embed.specs.declared.feed.Feed.{Feed}
use Rattle.eco_embed.specs.declared.feed.Feed.TheVariants as feed
use Rattle.eco_issued_laws.specs.Issued.{Edit, edited}
use Rattle.eco_base.specs.Bases.{BaseParts}
use Rattle.eco_base.specs.Opened.{IsOpened}
use Rattle.eco_one_gate.specs.declared.one_fault.OneFault.{OneFault}
use Rattle.eco_one_gate.specs.declared.one_fault.OneFault.TheVariants as fault
use Rattle.eco_one_gate.specs.declared.one_gate.OneGate.{OneGate}
use Rattle.eco_one_gate.specs.OneAnswers.{AppliesOne}
use Rattle.eco_cli.specs.BaseTexts.{RefusesBase}
use Rattle.eco_cli.specs.CommandLine.{Listed, value_of}
use Rattle.eco_cli.specs.ValueForms.{items_of}
use Rattle.eco_cli.specs.declared.apply_words.ApplyWords.{ApplyWords}
use Rattle.eco_cli.specs.declared.command_option.OptionKind.TheVariants as kind
use Rattle.eco_cli.specs.declared.done.Done.{Done}
use Rattle.eco_cli.specs.declared.done.Done.TheVariants as done
use Rattle.eco_cli.specs.declared.refusal.Refusal.{Refusal}
use Rattle.eco_cli.specs.declared.refusal.Refusal.TheVariants as refused

abbrev pub apply_options : List Listed
apply_options =
    record { word = codes "--lef"; kind = kind.Input MAX_LEF_BYTES }
    ∷ record { word = codes "--def"; kind = kind.Input MAX_DEF_BYTES }
    ∷ record { word = codes "--functions"; kind = kind.Input MAX_FUNCTIONS_BYTES }
    ∷ record { word = codes "--desk"; kind = kind.Input MAX_DESK_BYTES }
    ∷ record { word = codes "--spare"; kind = kind.Text }
    ∷ record { word = codes "--table"; kind = kind.Table }
    ∷ record { word = codes "--inputs"; kind = kind.Names }
    ∷ record { word = codes "--pins"; kind = kind.Feeds }
    ∷ record { word = codes "--output"; kind = kind.Text }
    ∷ record { word = codes "--comp"; kind = kind.Text }
    ∷ record { word = codes "--pin"; kind = kind.Text }
    ∷ record { word = codes "--from"; kind = kind.Text }
    ∷ record { word = codes "--out"; kind = kind.Text }
    ∷ []

-- the spare, the gate with its nets, and the pin that is moved
pub record Apply : Type 0 where
  pub spare : List ℕ
  pub table : TruthTable
  pub inputs : List (List ℕ)
  pub feeds : List Feed
  pub output : List ℕ
  pub comp : List ℕ
  pub pin : List ℕ
  pub from : List ℕ

-- how a feed is written: an input as i and its digit
abbrev pub feed_word : Feed → List ℕ
feed_word feed.Zero = codes "0"
feed_word feed.One = codes "1"
feed_word (feed.Input n) = 105 ∷ (48 + n) ∷ []

-- The words behind apply ask this.
pub record AsksApply (words : List (List ℕ)) (a : Apply) : Type 0 where
  pub spare : a.spare ≡ value_of words (codes "--spare")
  pub table : (m : ℕ) × (table_of m (value_of words (codes "--table")) ≡ Some a.table)
  pub inputs : a.inputs ≡ items_of (value_of words (codes "--inputs"))
  pub feeds : map feed_word a.feeds ≡ items_of (value_of words (codes "--pins"))
  pub output : a.output ≡ value_of words (codes "--output")
  pub comp : a.comp ≡ value_of words (codes "--comp")
  pub pin : a.pin ≡ value_of words (codes "--pin")
  pub from : a.from ≡ value_of words (codes "--from")

abbrev pub apply_of : ApplyWords → Apply
apply_of a = record {
  spare = a.spare.now;
  table = record { inputs = a.table.inputs; bits = a.table.bits };
  inputs = map (λ name. name.now) a.inputs.items;
  feeds = a.feeds.items;
  output = a.output.now;
  comp = a.comp.now;
  pin = a.pin.now;
  from = a.from.now;
}

-- ---- what it gives

-- the order that was asked
pub record IsOrder (a : Apply) (one : OneGate) : Type 0 where
  pub spare : one.spare ≡ a.spare
  pub table : one.table ≡ a.table
  pub inputs : one.inputs.items ≡ a.inputs
  pub feeds : one.feeds.items ≡ a.feeds
  pub output : one.output ≡ a.output
  pub comp : one.comp ≡ a.comp
  pub pin : one.pin ≡ a.pin
  pub from : one.from_net ≡ a.from

-- The texts are those of a base, and an overlay applies the order in it: it puts the spare's pins on their nets, and with it the
-- netlist computes the same as with the gate. The issued text is the base's, edited so.
pub record IsPatched (a : Apply) (lef def functions desk issued : List ℕ) : Type 0 where
  pub base : BaseParts
  pub opened : IsOpened lef def functions desk base
  pub one : OneGate
  pub order : IsOrder a one
  pub overlay : List Edit
  pub applied : AppliesOne base one (Ok overlay)
  pub written : issued ≡ edited base.texts.text 0 overlay

-- the order is refused by this first reason
pub record IsRefusedOrder (a : Apply) (base : BaseParts) (f : OneFault) : Type 0 where
  pub one : OneGate
  pub order : IsOrder a one
  pub refused : AppliesOne base one (Err f)
  pub reason : f ≢ fault.Memory

-- the patched text is written, and its length is told
abbrev pub GivesPatched : Apply → List ℕ → List ℕ → List ℕ → List ℕ → Done → List ℕ → Type 0
GivesPatched a lef def functions desk (done.Written count) issued = IsPatched a lef def functions desk issued × (count ≡ length issued)
GivesPatched a lef def functions desk d issued = ⊥

-- the texts are those of no base, or of one in which the order is refused
abbrev pub RefusesPatch : Apply → List ℕ → List ℕ → List ℕ → List ℕ → Refusal → Type 0
RefusesPatch a lef def functions desk (refused.Base f) = RefusesBase lef def functions desk f
RefusesPatch a lef def functions desk (refused.Apply f) = (base : BaseParts) × IsOpened lef def functions desk base × IsRefusedOrder a base f
RefusesPatch a lef def functions desk r = ⊥

-- An order has the four texts of a base, and its output is the patched text.
abbrev pub ApplyGives : List (List ℕ) → List (List ℕ) → Done → List ℕ → Type 0
ApplyGives words (lef ∷ def ∷ functions ∷ desk ∷ []) d issued = (a : Apply) × AsksApply words a × GivesPatched a lef def functions desk d issued
ApplyGives words texts d issued = ⊥

abbrev pub ApplyRefuses : List (List ℕ) → List (List ℕ) → Refusal → Type 0
ApplyRefuses words (lef ∷ def ∷ functions ∷ desk ∷ []) r = (a : Apply) × AsksApply words a × RefusesPatch a lef def functions desk r
ApplyRefuses words texts r = ⊥

-- The work that a command line asks for.
use Rattle.std.specs.Prelude.{ℕ, List, [], ◌∷◌, ◌++◌, map, Option, Some, None}
use Rattle.eco_cli.specs.Opens.{Asked, Ready, for_source, for_sink, without_first}
use Rattle.eco_cli.specs.declared.done.Done.{Done}
use Rattle.eco_cli.specs.declared.refusal.Refusal.{Refusal}

-- an input: the option that names it, its name, and how many bytes it may have
pub record Input : Type 0 where
  pub option : List ℕ
  pub name : List ℕ
  pub limit : ℕ

-- A job: its inputs in the order of opening, and perhaps an output.
-- Texts of these inputs give what is told and the bytes of the output, or are refused.
pub record Job : Type 1 where
  pub inputs : List Input
  pub output : Option (List ℕ)
  pub Gives : List (List ℕ) → Done → List ℕ → Type 0
  pub Refuses : List (List ℕ) → Refusal → Type 0

-- what is ready after these inputs were opened
abbrev pub ready_after : {I : Type 0} → List Input → Ready I → Ready I
ready_after [] ready = ready
ready_after (i ∷ is) ready = ready_after is (without_first i.name ready)

abbrev pub source_opens : List Input → List Asked
source_opens inputs = map (λ i. for_source i.name) inputs

abbrev pub sink_opens : Option (List ℕ) → List Asked
sink_opens None = []
sink_opens (Some name) = for_sink name ∷ []

-- the opens of a job, in order
abbrev pub opens_of : Job → List Asked
opens_of j = source_opens j.inputs ++ sink_opens j.output

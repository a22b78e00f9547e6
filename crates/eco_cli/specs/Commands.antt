-- The commands, and what a command line asks.
use Rattle.std.specs.Prelude.{◌≡◌, ℕ, ◌+◌, ◌⊎◌, List, [], ◌∷◌, codes, Option, Some, None, if◌then◌else◌}
use Rattle.std.specs.Str.{bytes_eq}
use Rattle.eco_cli.specs.CommandLine.{Listed, HasReading, IsFirstBad, inputs_in, output_in}
use Rattle.eco_cli.specs.Job.{Job}
use Rattle.eco_cli.specs.ApplyCommand.{apply_options, ApplyGives, ApplyRefuses}
use Rattle.eco_cli.specs.CheckCommand.{check_options, CheckGives, CheckRefuses}
use Rattle.eco_cli.specs.MoveCommand.{move_options, move_in, MoveGives, MoveRefuses}
use Rattle.eco_cli.specs.declared.command.Command.{Command}
use Rattle.eco_cli.specs.declared.command.Command.TheVariants as command
use Rattle.eco_cli.specs.declared.done.Done.{Done}
use Rattle.eco_cli.specs.declared.refusal.Refusal.{Refusal}

-- ---- a line for each command

-- the command of a word
abbrev pub command_named : List ℕ → Option Command
command_named w =
    if bytes_eq w (codes "move") then Some command.Move
    else if bytes_eq w (codes "check") then Some command.Check
    else if bytes_eq w (codes "apply") then Some command.Apply
    else None

-- its options, in the order in which inputs are opened
abbrev pub options_of : Command → List Listed
options_of command.Move = move_options
options_of command.Check = check_options
options_of command.Apply = apply_options

-- what texts of its inputs give, with these words behind it
abbrev pub Gives : Command → List (List ℕ) → List (List ℕ) → Done → List ℕ → Type 0
Gives command.Move words = MoveGives (move_in words)
Gives command.Check words = CheckGives
Gives command.Apply words = ApplyGives words

-- why texts of its inputs are refused
abbrev pub Refuses : Command → List (List ℕ) → List (List ℕ) → Refusal → Type 0
Refuses command.Move words = MoveRefuses (move_in words)
Refuses command.Check words = CheckRefuses
Refuses command.Apply words = ApplyRefuses words

-- ---- of any command

abbrev pub job_of : Command → List (List ℕ) → Job
job_of c words = record {
  inputs = inputs_in (options_of c) words;
  output = output_in (options_of c) words;
  Gives = Gives c words;
  Refuses = Refuses c words;
}

-- the line asks for this command with these words behind it
abbrev pub Asks : List (List ℕ) → Command → List (List ℕ) → Type 0
Asks [] c words = ⊥
Asks (w ∷ ws) c words = (command_named w ≡ Some c) × (words ≡ ws) × HasReading (options_of c) ws

-- the first bad word of a line, counted from its first word
abbrev pub IsBadWord : List (List ℕ) → ℕ → Type 0
IsBadWord [] n = n ≡ 0
IsBadWord (w ∷ ws) n = ((command_named w ≡ None) × (n ≡ 0)) ⊎ ((c : Command) × (command_named w ≡ Some c) × ((m : ℕ) × (n ≡ m + 1) × IsFirstBad (options_of c) ws m))

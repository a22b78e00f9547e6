-- What a command prints and answers.
use Rattle.std.specs.Prelude.{◌≡◌, ℕ, decimal, ◌⊎◌, List, [], ◌∷◌, ◌++◌, Option, Result, Ok, Err, codes}
use Rattle.std.specs.Io.KnownBytes.{append_known}
use Rattle.std.specs.List.{flat_map}
use Rattle.eco_common.specs.Causes.{Rose}
use Rattle.eco_text.specs.Writing.{AppendsFront}
use Rattle.eco_text.specs.declared.word.TextFault.{TextFault}
use Rattle.eco_text.specs.declared.word.TextFault.TheVariants.{OpenQuote}
use Rattle.eco_def.specs.declared.fault.DefFault.{DefFault}
use Rattle.eco_def.specs.declared.fault.DefFault.TheVariants as def
use Rattle.eco_def.specs.declared.fault.Section.{Section}
use Rattle.eco_def.specs.declared.fault.Section.TheVariants.{Units, Components, Nets}
use Rattle.eco_lef.specs.declared.fault.LefFault.{LefFault}
use Rattle.eco_lef.specs.declared.fault.LefFault.TheVariants as lef
use Rattle.eco_func.specs.declared.fault.FuncFault.{FuncFault}
use Rattle.eco_func.specs.declared.fault.FuncFault.TheVariants as func
use Rattle.eco_net.specs.Netlist.{Name}
use Rattle.eco_overlay.specs.declared.fault.MoveFault.{MoveFault}
use Rattle.eco_overlay.specs.declared.fault.MoveFault.TheVariants as moving
use Rattle.eco_base.specs.declared.fault.BaseFault.{BaseFault}
use Rattle.eco_base.specs.declared.fault.BaseFault.TheVariants as base
use Rattle.eco_one_gate.specs.declared.one_fault.OneFault.{OneFault}
use Rattle.eco_one_gate.specs.declared.one_fault.OneFault.TheVariants as one
use Rattle.eco_cli.specs.declared.done.Done.{Done}
use Rattle.eco_cli.specs.declared.done.Done.TheVariants as done
use Rattle.eco_cli.specs.declared.failure.Failure.{Failure}
use Rattle.eco_cli.specs.declared.failure.Failure.TheVariants as failed
use Rattle.eco_cli.specs.declared.refusal.Refusal.{Refusal}
use Rattle.eco_cli.specs.declared.refusal.Refusal.TheVariants as refused
use Rattle.eco_cli.specs.declared.report.Report.{Report}

abbrev pub status_of : Result Done Failure → ℕ
status_of (Ok d) = 0
status_of (Err (failed.Words n)) = 2
status_of (Err (failed.TooLong option)) = 1
status_of (Err (failed.Refused refusal)) = 1
status_of (Err failed.Read) = 3
status_of (Err failed.Write) = 4
status_of (Err failed.Memory) = 6

abbrev pub move_words : MoveFault → List ℕ
move_words moving.UnknownComponent = codes "eco: move UnknownComponent"
move_words moving.NotOnNet = codes "eco: move NotOnNet"
move_words moving.UnknownNet = codes "eco: move UnknownNet"
move_words moving.Memory = codes "eco: memory"

abbrev pub section_words : Section → List ℕ
section_words Units = codes "UNITS"
section_words Components = codes "COMPONENTS"
section_words Nets = codes "NETS"

-- where the quoted word begins that doesn't end
abbrev pub quote_place : TextFault → ℕ
quote_place (OpenQuote place) = place

-- a fault of a DEF by its name, and its place in bytes or what is missing
abbrev pub def_text : DefFault → List ℕ
def_text (def.Text fault) = codes "Text OpenQuote place=" ++ decimal (quote_place fault)
def_text (def.UnknownHeading place) = codes "UnknownHeading place=" ++ decimal place
def_text (def.Unended place) = codes "Unended place=" ++ decimal place
def_text (def.BadStatement place) = codes "BadStatement place=" ++ decimal place
def_text (def.TwiceNamed place) = codes "TwiceNamed place=" ++ decimal place
def_text (def.MustJoin place) = codes "MustJoin place=" ++ decimal place
def_text (def.Limit place) = codes "Limit place=" ++ decimal place
def_text (def.Missing which) = codes "Missing which=" ++ section_words which
def_text def.Memory = codes "memory"

-- a fault of a LEF by its name, and its place in bytes or the name of the block that is cut off
abbrev pub lef_text : LefFault → List ℕ
lef_text (lef.Text fault) = codes "Text OpenQuote place=" ++ decimal (quote_place fault)
lef_text (lef.Unended name) = codes "Unended name=" ++ name
lef_text (lef.TwiceNamed place) = codes "TwiceNamed place=" ++ decimal place
lef_text (lef.TooManyMasters place) = codes "TooManyMasters place=" ++ decimal place
lef_text (lef.ArrayBlock place) = codes "ArrayBlock place=" ++ decimal place
lef_text (lef.BadStatement place) = codes "BadStatement place=" ++ decimal place
lef_text lef.Memory = codes "memory"

-- a fault of a functions file by its name and its fields
abbrev pub func_text : FuncFault → List ℕ
func_text func.BadToml = codes "BadToml"
func_text (func.BadField master field) = codes "BadField master=" ++ (master ++ (codes " field=" ++ field))
func_text (func.TooManyInputs master) = codes "TooManyInputs master=" ++ master
func_text (func.BadTable master output) = codes "BadTable master=" ++ (master ++ (codes " output=" ++ output))
func_text (func.BadExpression master output place) = codes "BadExpression master=" ++ (master ++ (codes " output=" ++ (output ++ (codes " place=" ++ decimal place))))
func_text (func.UnknownInput master output input) = codes "UnknownInput master=" ++ (master ++ (codes " output=" ++ (output ++ (codes " input=" ++ input))))
func_text (func.TooManyMasters count) = codes "TooManyMasters count=" ++ decimal count
func_text func.Memory = codes "memory"

-- names with commas between them
abbrev pub names_text : List Name → List ℕ
names_text [] = []
names_text (n ∷ ns) = n ++ flat_map (λ m. 44 ∷ m) ns

-- why texts give no base, by the fault's name and its fields
abbrev pub base_text : BaseFault → List ℕ
base_text (base.Lef fault) = codes "eco: base Lef " ++ lef_text fault
base_text (base.Def fault) = codes "eco: base Def " ++ def_text fault
base_text (base.Func fault) = codes "eco: base Func " ++ func_text fault
base_text (base.Desk field) = codes "eco: base Desk field=" ++ field
base_text (base.UnknownMaster comp) = codes "eco: base UnknownMaster comp=" ++ comp
base_text (base.FunctionPins master pin) = codes "eco: base FunctionPins master=" ++ (master ++ (codes " pin=" ++ pin))
base_text (base.UnknownPin net place) = codes "eco: base UnknownPin net=" ++ (net ++ (codes " place=" ++ decimal place))
base_text (base.PinNetDiffers pin first second) = codes "eco: base PinNetDiffers pin=" ++ (pin ++ (codes " first=" ++ (first ++ (codes " second=" ++ second))))
base_text (base.PatternOnSignal net pin) = codes "eco: base PatternOnSignal net=" ++ (net ++ (codes " pin=" ++ pin))
base_text (base.SupplyDiffers net) = codes "eco: base SupplyDiffers net=" ++ net
base_text (base.TieNotConstant net) = codes "eco: base TieNotConstant net=" ++ net
base_text (base.TooMuchStock count) = codes "eco: base TooMuchStock count=" ++ decimal count
base_text (base.Loop nets) = codes "eco: base Loop nets=" ++ names_text nets
base_text base.Memory = codes "eco: memory"

abbrev pub one_words : OneFault → List ℕ
one_words one.NotSpare = codes "eco: apply NotSpare"
one_words one.BadOrder = codes "eco: apply BadOrder"
one_words one.NotEmbedding = codes "eco: apply NotEmbedding"
one_words one.Memory = codes "eco: memory"

abbrev pub refusal_text : Refusal → List ℕ
refusal_text (refused.Def fault) = codes "eco: def " ++ def_text fault
refusal_text (refused.Move fault) = move_words fault
refusal_text (refused.Base fault) = base_text fault
refusal_text (refused.Apply fault) = one_words fault

-- a line that ends with a number
abbrev pub count_line : List ℕ → ℕ → List ℕ
count_line head n = (head ++ decimal n) ++ 10 ∷ []

-- how much a base has, a line for each number
abbrev pub report_text : Report → List ℕ
report_text r =
    count_line (codes "components ") r.census.components
    ++ (count_line (codes "gates ") r.census.gates
    ++ (count_line (codes "boxes ") r.census.boxes
    ++ (count_line (codes "nets ") r.census.nets
    ++ (count_line (codes "pins ") r.census.pins
    ++ (count_line (codes "stock ") r.census.stock
    ++ (count_line (codes "levels ") r.levels
    ++ count_line (codes "skipped ") r.census.skipped))))))

-- how many bytes were written, or what the base has
abbrev pub done_text : Done → List ℕ
done_text (done.Written n) = count_line (codes "written ") n
done_text (done.Checked report) = report_text report

-- of bad words the index of the first
abbrev pub failure_text : Failure → List ℕ
failure_text (failed.Words n) = codes "eco: words " ++ decimal n
failure_text (failed.TooLong option) = codes "eco: TooLong " ++ option.now
failure_text (failed.Refused refusal) = refusal_text refusal
failure_text failed.Read = codes "eco: read fault"
failure_text failed.Write = codes "eco: write fault"
failure_text failed.Memory = codes "eco: memory"

-- what is printed: a line, or several
abbrev pub line_of : Result Done Failure → List ℕ
line_of (Ok d) = done_text d
line_of (Err f) = failure_text f ++ 10 ∷ []

-- It was printed, and this is the status; or the output failed, after a front of it.
abbrev pub Tells : Option (List ℕ) → Option (List ℕ) → ℕ → ℕ → List ℕ → ℕ → ℕ → Type 0
Tells old new before now line status answer =
    ((answer ≡ status) × (new ≡ append_known old line))
    ⊎ ((answer ≡ 4) × AppendsFront old new line × Rose before now)

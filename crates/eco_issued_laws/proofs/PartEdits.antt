-- The edits of a text, part by part.
use Rattle.std.specs.Prelude.{ℕ, List, [], ◌++◌, if◌then◌else◌}
use Rattle.std.specs.List.{flat_map}
use Rattle.eco_def.specs.Design.{Net, NetSection, Part, Special, Nets}
use Rattle.eco_issued_laws.specs.Changes.{Changes}
use Rattle.eco_issued_laws.specs.Issued.{Edit, edited, special_edits, section_edits, nets_first}

abbrev pub part_edits : List ℕ → Changes → Part → List Edit
part_edits text o (Special ss) = special_edits text o ss
part_edits text o (Nets s) = section_edits text o s
part_edits text o _ = []

-- the issued text of a text with these parts
abbrev pub issued_parts : List ℕ → Changes → List Part → List ℕ
issued_parts text o ps = edited text 0 (flat_map (part_edits text o) ps)

-- the edits of the two sections, in the order of the text
abbrev pub both_edits : List ℕ → Changes → List Net → NetSection → List Edit
both_edits text o ss s =
    if nets_first ss s then section_edits text o s ++ special_edits text o ss
    else special_edits text o ss ++ section_edits text o s

-- Edits that share one list of new bytes, and edits that leave out what stays.
use Rattle.std.specs.Prelude.{◌≡◌, ℕ, ◌≤◌, Bool, true, false, List, [], ◌∷◌, ◌++◌, slice_range, if◌then◌else◌}
use Rattle.std.specs.List.{flat_map}
use Rattle.eco_def.specs.declared.design.Design.{Design}
use Rattle.eco_def.specs.Design as said
use Rattle.eco_def.specs.View.{design_in}
use Rattle.eco_overlay.specs.declared.stretch.Stretch.{Stretch}
use Rattle.eco_issued_laws.specs.Changes.{NewJoint, Fresh, Changes}
use Rattle.eco_issued_laws.specs.Issued.{Edit, net_edit, count_text, fresh_text, stays_whole, nets_first, IsOverlayOf}

-- each stretch is replaced by the bytes from where the one before ends
abbrev pub edits_of : List ℕ → ℕ → List Stretch → List Edit
edits_of bytes from [] = []
edits_of bytes from (s ∷ ss) = record { start = s.start; end = s.end; bytes = slice_range bytes from s.upto } ∷ edits_of bytes s.upto ss

-- the ends never fall, and the last is hi
abbrev pub Rises : ℕ → ℕ → List Stretch → Type 0
Rises lo hi [] = lo ≡ hi
Rises lo hi (s ∷ ss) = (lo ≤ s.upto) × Rises s.upto hi ss

-- the edit of a statement that changes
abbrev pub changed_edits : List ℕ → Changes → Bool → said.Net → List Edit
changed_edits text o special s = if stays_whole o special s then [] else net_edit text o special s ∷ []

-- the edits of the statements that change
abbrev pub all_changed : List ℕ → Changes → Bool → List said.Net → List Edit
all_changed text o special ss = flat_map (changed_edits text o special) ss

-- the edit of the count word, where there are new statements
abbrev pub count_edits : List ℕ → Changes → said.NetSection → List Fresh → List Edit
count_edits text o s [] = []
count_edits text o s (f ∷ fs) = record { start = s.count.start; end = s.count.end; bytes = count_text text o s (f ∷ fs) } ∷ []

-- the edit before the END of NETS, where there are new statements
abbrev pub appended : said.NetSection → List Fresh → List Edit
appended s [] = []
appended s (f ∷ fs) = record { start = s.end; end = s.end; bytes = flat_map fresh_text (f ∷ fs) } ∷ []

-- the edits of NETS, without what stays
abbrev pub section_changed : List ℕ → Changes → said.NetSection → List Edit
section_changed text o s = count_edits text o s o.fresh ++ (all_changed text o false s.nets ++ appended s o.fresh)

-- the edits of a design, without what stays
abbrev pub design_changed : List ℕ → Changes → said.Design → List Edit
design_changed text o d =
    if nets_first d.special d.nets then section_changed text o d.nets ++ all_changed text o true d.special
    else all_changed text o true d.special ++ section_changed text o d.nets

-- the overlay was made for the text and its design
abbrev pub IsMadeFor : List ℕ → Design → List Edit → Type 0
IsMadeFor text d overlay = (joints : List NewJoint) × (nets : List (List ℕ)) × IsOverlayOf text (design_in text d) joints nets overlay

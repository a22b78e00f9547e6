-- The issued text: a text whose nets have other joints. LEF/DEF 5.8 Language Reference, "Nets" and "Special Nets",
-- in the form of docs/FORMATS.md.
use Rattle.std.specs.Prelude.{◌≡◌, ℕ, ◌+◌, ◌≤◌, nat_lt, Bool, true, false, ◌&&◌, List, [], ◌∷◌, ◌++◌, length, map, drop, slice_range, Option, Some, None, if◌then◌else◌, codes}
use Rattle.std.specs.List.{flat_map, list_all, filter}
use Rattle.eco_text.specs.Words.{Token}
use Rattle.eco_def.specs.Design.{Joint, Net, NetSection, Design}
use Rattle.eco_def.specs.Named.{NamedJoint, NamedNet, NamedDesign, joint_names, names_of}
use Rattle.eco_issued_laws.specs.Printing.{spaced}
use Rattle.eco_issued_laws.specs.Changes.{NewJoint, Fresh, Changes, is_nil, changes_of}

-- ---- by names

abbrev pub issued_net : Changes → Bool → NamedNet → NamedNet
issued_net o special n = record { name = n.name; usage = n.usage; joints = filter (o.stays n.name) n.joints ++ o.added special n.name }

abbrev pub fresh_net : Fresh → NamedNet
fresh_net f = record { name = f.name; usage = None; joints = f.joints }

abbrev pub issued_design : Changes → NamedDesign → NamedDesign
issued_design o d = record { units = d.units; comps = d.comps; pins = d.pins; special = map (issued_net o true) d.special; nets = map (issued_net o false) d.nets ++ map fresh_net o.fresh }

-- ---- by bytes

-- Bytes that stand in place of those from start to end.
pub record Edit : Type 0 where
  pub start : ℕ
  pub end : ℕ
  pub bytes : List ℕ

-- the text from a place on, edited
abbrev pub edited : List ℕ → ℕ → List Edit → List ℕ
edited text at [] = drop at text
edited text at (e ∷ es) = slice_range text at e.start ++ (e.bytes ++ edited text e.end es)

abbrev pub joint_words : NamedJoint → List (List ℕ)
joint_words j = codes "(" ∷ j.comp ∷ j.pin ∷ codes ")" ∷ []

-- a joint that stays, after a blank
abbrev pub kept_text : List ℕ → (NamedJoint → Bool) → Joint → List ℕ
kept_text text stays j = if stays (joint_names j) then 32 ∷ slice_range text j.start j.end else []

abbrev pub use_words : Option Token → List (List ℕ)
use_words None = []
use_words (Some w) = codes "+" ∷ codes "USE" ∷ w.bytes ∷ []

-- the end of the last joint, or of the name
abbrev pub joints_end : ℕ → List Joint → ℕ
joints_end at [] = at
joints_end at (j ∷ js) = joints_end j.end js

-- what stands after the joints: the use alone in NETS, and all clauses in SPECIALNETS
abbrev pub tail_text : List ℕ → Bool → Net → List ℕ
tail_text text special s = if special then slice_range text (joints_end s.name.end s.joints) s.end else spaced (use_words s.usage ++ codes ";" ∷ [])

-- nothing changes in a statement
abbrev pub stays_whole : Changes → Bool → Net → Bool
stays_whole o special s = list_all (λ j. o.stays s.name.bytes (joint_names j)) s.joints && is_nil (o.added special s.name.bytes)

-- a statement with the joints that stay, and these pins
abbrev pub statement_text : List ℕ → (NamedJoint → Bool) → List NamedJoint → Bool → Net → List ℕ
statement_text text stays added special s =
    codes "-" ++ (spaced (s.name.bytes ∷ []) ++ (flat_map (kept_text text stays) s.joints ++ (spaced (flat_map joint_words added) ++ tail_text text special s)))

-- a statement that has changed
abbrev pub changed_text : List ℕ → Changes → Bool → Net → List ℕ
changed_text text o special s = statement_text text (o.stays s.name.bytes) (o.added special s.name.bytes) special s

abbrev pub net_text : List ℕ → Changes → Bool → Net → List ℕ
net_text text o special s = if stays_whole o special s then slice_range text s.start s.end else changed_text text o special s

abbrev pub fresh_text : Fresh → List ℕ
fresh_text f = codes "-" ++ (spaced (f.name ∷ (flat_map joint_words f.joints ++ codes ";" ∷ [])) ++ 10 ∷ [])

abbrev pub count_text : List ℕ → Changes → NetSection → List Fresh → List ℕ
count_text text o s [] = slice_range text s.count.start s.count.end
count_text text o s (f ∷ fs) = o.numeral (length s.nets + length (f ∷ fs))

abbrev pub net_edit : List ℕ → Changes → Bool → Net → Edit
net_edit text o special s = record { start = s.start; end = s.end; bytes = net_text text o special s }

-- the edits of SPECIALNETS, and those of NETS: its count word, its statements, and the place before its END
abbrev pub special_edits : List ℕ → Changes → List Net → List Edit
special_edits text o ss = map (net_edit text o true) ss

abbrev pub section_edits : List ℕ → Changes → NetSection → List Edit
section_edits text o s =
    record { start = s.count.start; end = s.count.end; bytes = count_text text o s o.fresh }
    ∷ (map (net_edit text o false) s.nets ++ record { start = s.end; end = s.end; bytes = flat_map fresh_text o.fresh } ∷ [])

-- whether NETS stands before SPECIALNETS
abbrev pub nets_first : List Net → NetSection → Bool
nets_first [] s = false
nets_first (t ∷ ts) s = nat_lt s.count.start t.start

-- the edits in the order of the text
abbrev pub edits : List ℕ → Changes → Design → List Edit
edits text o d =
    if nets_first d.special d.nets then section_edits text o d.nets ++ special_edits text o d.special
    else special_edits text o d.special ++ section_edits text o d.nets

-- the issued text of a text with this design, with these pins on their nets and these new nets
abbrev pub issued_text : List ℕ → Design → List NewJoint → List (List ℕ) → List ℕ
issued_text text d joints nets = edited text 0 (edits text (changes_of (names_of d) joints nets) d)

-- edits lie one after another, from lo on and up to hi
abbrev pub InOrder : ℕ → ℕ → List Edit → Type 0
InOrder lo hi [] = lo ≤ hi
InOrder lo hi (e ∷ es) = (lo ≤ e.start) × (e.start ≤ e.end) × InOrder e.end hi es

-- These edits give the issued text, and lie one after another in the text.
pub record IsOverlayOf (text : List ℕ) (d : Design) (joints : List NewJoint) (nets : List (List ℕ)) (overlay : List Edit) : Type 0 where
  pub issued : edited text 0 overlay ≡ issued_text text d joints nets
  pub order : InOrder 0 (length text) overlay

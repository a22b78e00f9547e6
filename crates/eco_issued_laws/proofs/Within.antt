-- The edits of a text lie in order within it.
use Rattle.std.proofs.Common.{◌≡◌, ℕ, zero, suc, ◌≤◌, Bool, true, false, not, List, [], ◌∷◌, ◌++◌, length, map, Ok, refl, ap, sym, ◌∙◌, subst, arith, if◌then◌else◌, codes, append-nil}
use Rattle.std.specs.List.{flat_map}
use Rattle.std.proofs.lemmas.List.{map-append}
use Rattle.std.proofs.lemmas.Grind.{flat_map-append}
use Rattle.eco_text.specs.Words.{Token, Walk, finished, open_quote, word_then, walk_of}
use Rattle.eco_def.specs.Parsing.{Parser, then_read, refuse, begins, many_for, size}
use Rattle.eco_text.specs.Tokens.{is_word, is_one_of}
use Rattle.eco_def.specs.Reading.{IsInOrder}
use Rattle.eco_def.specs.Design.{Net, Part, Nets}
use Rattle.eco_def.specs.Grammar.{net_new_within, net_new, net, nets, section_head, section_end, comp_section, pin_section, special_section_within, special_section, net_section_within, net_section, passed_sections, passed_statements, Kind, CompKind, PinKind, SpecialKind, NetKind, have, once, part_new_within, part_new, part, parts_within, parts}
use Rattle.eco_def.proofs.WalkOrder.{words_in_order}
use Rattle.eco_issued_laws.specs.Changes.{Changes}
use Rattle.eco_issued_laws.specs.Issued.{Edit, fresh_text, net_edit, special_edits, InOrder}
use Rattle.eco_issued_laws.specs.ReadingBack.{Outside}
use Rattle.eco_issued_laws.proofs.Faults.{bad_statement, twice_named, unknown_heading}
use Rattle.eco_issued_laws.proofs.PartEdits.{part_edits}
use Rattle.eco_issued_laws.proofs.Keeping.{Keeps, SameNext, Ok_is, split}
use Rattle.eco_issued_laws.proofs.Rules.{keeps_joints, keeps_net_tail, keeps_net_name}
use Rattle.eco_issued_laws.proofs.Ending.{Ends, refused}
use Rattle.eco_issued_laws.proofs.Advancing.{Reached, Advances, LiesFrom, advances_any, advances_next, advances_give, advances_refuse, advances_choose, advances_then, Anywhere, advances_keeps}
use Rattle.eco_issued_laws.proofs.Passing.{keeps_head, keeps_end, keeps_comp_section, ends_comp_section, keeps_pin_section, ends_pin_section, keeps_units, ends_units, keeps_passed_section, ends_passed_section, keeps_passed, ends_passed}
use Rattle.eco_issued_laws.proofs.Whole.{keeps_end_design}
use Rattle.eco_issued_laws.proofs.Back.{parts_of}

-- ---- edits in order

order_join : (lo mid hi : ℕ) (es fs : List Edit) → InOrder lo mid es → InOrder mid hi fs → InOrder lo hi (es ++ fs)
order_join lo mid hi [] [] a b = omega (arith, a, b)
order_join lo mid hi [] (f ∷ fs) a b = (omega (arith, a, b.0), b.1, b.2)
order_join lo mid hi (e ∷ es) fs a b = (a.0, a.1, order_join e.end mid hi es fs a.2 b)

order_further : (lo mid hi : ℕ) (es : List Edit) → InOrder lo mid es → mid ≤ hi → InOrder lo hi es
order_further lo mid hi [] o le = omega (arith, o, le)
order_further lo mid hi (e ∷ es) o le = (o.0, o.1, order_further e.end mid hi es o.2 le)

order_nearer : (lo lo' hi : ℕ) (es : List Edit) → lo' ≤ lo → InOrder lo hi es → InOrder lo' hi es
order_nearer lo lo' hi [] le o = omega (arith, le, o)
order_nearer lo lo' hi (e ∷ es) le o = (omega (arith, le, o.0), o.1, o.2)

-- one edit more after others, with gaps between
order_last : (lo a b hi : ℕ) (es : List Edit) (e : Edit) → lo ≤ a → InOrder a b es → (b ≤ e.start) × (e.start ≤ e.end) × (e.end ≤ hi) → InOrder lo hi (es ++ e ∷ [])
order_last lo a b hi es e le order last = order_nearer a lo hi (es ++ e ∷ []) le (order_join a b hi es (e ∷ []) order last)

-- the end of a text lies after all its words
order_within : (lo hi : ℕ) (u : Walk) → IsInOrder lo hi u → lo ≤ hi
order_within lo hi (finished place) order = omega (arith, order.0, order.1)
order_within lo hi (open_quote place) order = omega (arith, order.0, order.1)
order_within lo hi (word_then w u) order = omega (arith, order.0, order.1, order_within w.end hi u order.2)

-- ---- statements of nets

-- a statement lies between two places
abbrev NetLies : ℕ → Net → ℕ → Type 0
NetLies lo s place = (lo ≤ s.start) × (s.start ≤ s.end) × (s.end ≤ place)

net_advances : (known : List ℕ → Bool) (lo : ℕ) → Advances lo (NetLies lo) (net_new known)
unfolding net_new_within
net_advances known lo =
    advances_then lo (LiesFrom lo) (NetLies lo) (advances_next lo (is_word (codes "-"))) (λ dash a ge d.
    advances_then a Anywhere (NetLies lo) (advances_keeps a (keeps_net_name known known refl)) (λ n b ge' t.
    advances_then b Anywhere (NetLies lo) (advances_keeps b keeps_joints) (λ js c ge'' t.
    advances_then c Anywhere (NetLies lo) (advances_keeps c keeps_net_tail) (λ usage f ge''' t.
    advances_then f (LiesFrom f) (NetLies lo) (advances_next f (is_word (codes ";"))) (λ end g ge'''' e.
    advances_give g (NetLies lo) (d.0, omega (arith, d.1, d.2, ge', ge'', ge''', e.0, e.1), omega (arith, e.2)))))))

module _ (text : List ℕ) (o : Changes) where
  abbrev EditsLie : Bool → ℕ → List Net → ℕ → Type 0
  EditsLie special lo ss place = InOrder lo place (map (net_edit text o special) ss)

  net_push : (special : Bool) (lo a b : ℕ) (xs : List Net) (s : Net) → EditsLie special lo xs a → NetLies a s b → EditsLie special lo (xs ++ s ∷ []) b
  net_push special lo a b xs s order lies =
      subst (λ k. InOrder lo b k) (sym (map-append (net_edit text o special) xs (s ∷ []))) (order_join lo a b (map (net_edit text o special) xs) (net_edit text o special s ∷ []) order lies)

  nets_for : (special : Bool) (lo hi n a : ℕ) (xs : List Net) → EditsLie special lo xs a → lo ≤ a → (u : Walk) (zs : List Net) (r : Walk) → IsInOrder a hi u → many_for n (is_word (codes "-")) net xs u ≡ Ok (zs, r) → Reached lo (EditsLie special lo) hi zs r
  nets_for special lo hi zero a xs lies ge u zs r order e = absurd (refused bad_statement u zs r e)
  nets_for special lo hi (suc n) a xs lies ge u zs r order e = go (begins (is_word (codes "-")) u) e (λ b x k l le. nets_for special lo hi n b (xs ++ x ∷ []) l le k zs r)
    where
      go : (b : Bool) → (if b then then_read (net xs u) (λ x. many_for n (is_word (codes "-")) net (xs ++ x ∷ [])) else Ok (xs, u)) ≡ Ok (zs, r) →
          ((b : ℕ) (x : Net) (k : Walk) → EditsLie special lo (xs ++ x ∷ []) b → lo ≤ b → IsInOrder b hi k → many_for n (is_word (codes "-")) net (xs ++ x ∷ []) k ≡ Ok (zs, r) → Reached lo (EditsLie special lo) hi zs r) → Reached lo (EditsLie special lo) hi zs r
      go true e rec =
          let s = split (net xs) (λ x. many_for n (is_word (codes "-")) net (xs ++ x ∷ [])) u zs r e in
          let one = net_advances _ a hi u s.first s.middle order s.first_is in
          rec one.place s.first s.middle (net_push special lo a one.place xs s.first lies one.lies) (omega (arith, ge, one.later)) one.order s.then_is
      go false e rec = record {
        place = a;
        later = ge;
        lies = subst (λ k. EditsLie special lo k a) (ap (λ k. k.0) (Ok_is e)) lies;
        order = subst (λ k. IsInOrder a hi k) (ap (λ k. k.1) (Ok_is e)) order;
      }

  nets_advance : (special : Bool) (lo : ℕ) → Advances lo (EditsLie special lo) nets
  nets_advance special lo hi u zs r order e = nets_for special lo hi (suc (size u)) lo [] (omega arith) (omega arith) u zs r order e

  -- ---- sections

  abbrev PartLies : ℕ → Part → ℕ → Type 0
  PartLies lo x place = InOrder lo place (part_edits text o x)

  special_advances : (lo : ℕ) → Advances lo (PartLies lo) special_section
  unfolding special_section_within
  special_advances lo =
      advances_then lo Anywhere (PartLies lo) (advances_keeps lo (keeps_head (codes "SPECIALNETS"))) (λ c a ge t.
      advances_then a (EditsLie true a) (PartLies lo) (nets_advance true a) (λ ss b ge' lies.
      advances_then b Anywhere (PartLies lo) (advances_keeps b (keeps_end (codes "SPECIALNETS"))) (λ e f ge'' t.
      advances_give f (PartLies lo) (order_nearer a lo f (special_edits text o ss) ge (order_further a b f (special_edits text o ss) lies ge'')))))

  -- what a section begins and ends with, and where that lies
  head_advances : (keyword : List ℕ) (lo : ℕ) → Advances lo (λ c place. (lo ≤ c.start) × (c.start ≤ c.end) × (c.end ≤ place)) (section_head keyword)
  unfolding section_head
  head_advances keyword lo =
      advances_then lo (LiesFrom lo) _ (advances_next lo (is_word keyword)) (λ h a ge d.
      advances_then a (LiesFrom a) _ (advances_any a) (λ c b ge' w.
      advances_then b (LiesFrom b) _ (advances_next b (is_word (codes ";"))) (λ e f ge'' t.
      advances_give f (λ c place. (lo ≤ c.start) × (c.start ≤ c.end) × (c.end ≤ place)) (omega (arith, ge, w.0), omega (arith, w.1), omega (arith, w.2, ge'')))))

  end_advances : (keyword : List ℕ) (lo : ℕ) → Advances lo (λ k place. (lo ≤ k) × (k ≤ place)) (section_end keyword)
  unfolding section_end
  end_advances keyword lo =
      advances_then lo (LiesFrom lo) _ (advances_next lo (is_word (codes "END"))) (λ end a ge d.
      advances_then a (LiesFrom a) _ (advances_next a (is_word keyword)) (λ w b ge' t.
      advances_give b (λ k place. (lo ≤ k) × (k ≤ place)) (d.0, omega (arith, d.1, d.2, ge'))))

  section_advances : (lo : ℕ) → Advances lo (PartLies lo) net_section
  unfolding net_section_within
  section_advances lo =
      advances_then lo _ (PartLies lo) (head_advances (codes "NETS") lo) (λ c a ge w.
      advances_then a (EditsLie false a) (PartLies lo) (nets_advance false a) (λ ss b ge' lies.
      advances_then b _ (PartLies lo) (end_advances (codes "NETS") b) (λ k f ge'' t.
      advances_give f (PartLies lo) (placed c a b f k ss w lies t))))
    where
      placed : (c : Token) (a b f k : ℕ) (ss : List Net) → (lo ≤ c.start) × (c.start ≤ c.end) × (c.end ≤ a) → EditsLie false a ss b → (b ≤ k) × (k ≤ f) →
          PartLies lo (Nets (record { count = c; nets = ss; end = k })) f
      placed c a b f k ss w lies t = (w.0, w.1, order_last c.end a b f (map (net_edit text o false) ss) (record { start = k; end = k; bytes = flat_map fresh_text o.fresh }) w.2 lies (t.0, omega arith, t.1))

  -- ---- parts

  quiet : {B : Type 0} {n : ℕ} {V : Part → B → Type 0} (lo : ℕ) {p : Parser Part} {q : Parser B} → Keeps n V SameNext p q → Ends (λ x k. part_edits text o x ≡ []) p → Advances lo (PartLies lo) p
  quiet lo keeps ends hi u x r order e =
      let one = advances_keeps lo keeps hi u x r order e in
      record { place = one.place; later = one.later; lies = subst (λ k. InOrder lo one.place k) (sym (ends u x r e).end) one.later; order = one.order }

  at_once : (lo : ℕ) (seen : Kind → Bool) (k : Kind) (p : Parser Part) → Advances lo (PartLies lo) p → Advances lo (PartLies lo) (once seen k p)
  at_once lo seen k p advances = go (seen k)
    where
      go : (b : Bool) → Advances lo (PartLies lo) (λ u. if b then refuse twice_named u else p u)
      go true = advances_refuse lo (PartLies lo) twice_named
      go false = advances

  part_advances : (seen : Kind → Bool) (lo : ℕ) → Advances lo (PartLies lo) (part_new seen)
  unfolding part_new_within
  part_advances seen lo =
      advances_choose lo (PartLies lo) (is_word (codes "UNITS")) (quiet lo (keeps_units o) (ends_units text o))
      (advances_choose lo (PartLies lo) (is_word (codes "COMPONENTS")) (at_once lo seen CompKind comp_section (quiet lo (keeps_comp_section o) (ends_comp_section text o)))
      (advances_choose lo (PartLies lo) (is_word (codes "PINS")) (at_once lo seen PinKind pin_section (quiet lo (keeps_pin_section o) (ends_pin_section text o)))
      (advances_choose lo (PartLies lo) (is_word (codes "SPECIALNETS")) (at_once lo seen SpecialKind special_section (special_advances lo))
      (advances_choose lo (PartLies lo) (is_word (codes "NETS")) (at_once lo seen NetKind net_section (section_advances lo))
      (advances_choose lo (PartLies lo) (is_one_of passed_sections) (quiet lo (keeps_passed_section o) (ends_passed_section text o))
      (advances_choose lo (PartLies lo) (is_one_of passed_statements) (quiet lo (keeps_passed o (codes ";")) (ends_passed text o (codes ";")))
      (advances_choose lo (PartLies lo) (is_word (codes "BEGINEXT")) (quiet lo (keeps_passed o (codes "ENDEXT")) (ends_passed text o (codes "ENDEXT"))) (advances_refuse lo (PartLies lo) unknown_heading))))))))

  abbrev AllLie : List Part → ℕ → Type 0
  AllLie ps place = InOrder 0 place (flat_map (part_edits text o) ps)

  part_push : (a b : ℕ) (xs : List Part) (x : Part) → AllLie xs a → PartLies a x b → AllLie (xs ++ x ∷ []) b
  part_push a b xs x all lies =
      subst (λ k. InOrder 0 b k) (sym (flat_map-append (part_edits text o) xs (x ∷ []) ∙ ap (λ k. flat_map (part_edits text o) xs ++ k) (append-nil (part_edits text o x)))) (order_join 0 a b (flat_map (part_edits text o) xs) (part_edits text o x) all lies)

  parts_for : (f : Token → Bool) (hi n a : ℕ) (xs : List Part) → AllLie xs a → (u : Walk) (zs : List Part) (r : Walk) → IsInOrder a hi u → many_for n f part xs u ≡ Ok (zs, r) → Reached 0 AllLie hi zs r
  parts_for f hi zero a xs lies u zs r order e = absurd (refused bad_statement u zs r e)
  parts_for f hi (suc n) a xs lies u zs r order e = go (begins f u) e (λ b x k l. parts_for f hi n b (xs ++ x ∷ []) l k zs r)
    where
      go : (b : Bool) → (if b then then_read (part xs u) (λ x. many_for n f part (xs ++ x ∷ [])) else Ok (xs, u)) ≡ Ok (zs, r) →
          ((b : ℕ) (x : Part) (k : Walk) → AllLie (xs ++ x ∷ []) b → IsInOrder b hi k → many_for n f part (xs ++ x ∷ []) k ≡ Ok (zs, r) → Reached 0 AllLie hi zs r) → Reached 0 AllLie hi zs r
      go true e rec =
          let s = split (part xs) (λ x. many_for n f part (xs ++ x ∷ [])) u zs r e in
          let one = part_advances (have xs) a hi u s.first s.middle order s.first_is in
          rec one.place s.first s.middle (part_push a one.place xs s.first lies one.lies) one.order s.then_is
      go false e rec = record {
        place = a;
        later = omega arith;
        lies = subst (λ k. AllLie k a) (ap (λ k. k.0) (Ok_is e)) lies;
        order = subst (λ k. IsInOrder a hi k) (ap (λ k. k.1) (Ok_is e)) order;
      }

  parts_advance : Advances 0 AllLie parts
  unfolding parts_within
  parts_advance =
      advances_then 0 AllLie AllLie (λ hi u zs r order e. parts_for (λ w. not (is_word (codes "END") w)) hi (suc (size u)) 0 [] (omega arith) u zs r order e) (λ ps a ge lies.
      advances_then a Anywhere AllLie (advances_keeps a keeps_end_design) (λ end b ge' t. advances_give b AllLie (order_further 0 a b (flat_map (part_edits text o) ps) lies ge')))

pub outside : Outside
outside text d o is =
    let p = parts_of text o d is in
    let one = parts_advance text o (length text) (walk_of text) p.parts_are p.rest (words_in_order text) p.read in
    subst (λ k. InOrder 0 (length text) k) (sym p.edits_same) (order_further 0 one.place (length text) (flat_map (part_edits text o) p.parts_are) one.lies (order_within one.place (length text) p.rest one.order))

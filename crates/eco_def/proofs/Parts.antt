-- Parts one after another, and the sections that they give.
use Rattle.std.specs.Option.{option_or, option_map}
use Rattle.std.specs.List.{flat_map}
use Rattle.std.proofs.Common.{◌≡◌, ℕ, false, ◌||◌, List, [], ◌∷◌, ◌++◌, map, Option, Some, None, is_some, refl, ap, sym, ◌∙◌, append_assoc, append-nil}
use Rattle.eco_def.specs.declared.design.NetStatement.{NetStatement}
use Rattle.eco_def.specs.declared.part.Part.{Part}
use Rattle.eco_def.specs.declared.part.Part.TheVariants.{Passed, Units, Comps, Pins, Special, Nets}
use Rattle.eco_def.specs.declared.part.Sections.{Sections}
use Rattle.eco_def.specs.declared.room.Room.{Room}
use Rattle.eco_def.specs.Design as said
use Rattle.eco_def.specs.Grammar.{Kind, CompKind, PinKind, SpecialKind, NetKind, NoKind, kind_of, same_kind, have, last_some, units_of, comps_of, pins_of, special_of, nets_of, statements_of, room_after, whole_room}
use Rattle.eco_common.specs.Options.{first_some}
use Rattle.eco_def.specs.View.{comp_in, pin_in, net_in}
use Rattle.eco_def.specs.Sections.{AreOf, room_of, part_in, section_in, seen_in, with_part, room_less, IsFresh}
use Rattle.eco_def.proofs.Loops.{first_some-push, map_push}
use Rattle.eco_def.proofs.Placing.{is_some-map}
use Rattle.eco_def.proofs.Rooms.{behind_both, less_is}

pub last_some-push : {A : Type 0} (xs : List (Option A)) (o : Option A) → last_some (xs ++ o ∷ []) ≡ option_or o (last_some xs)
last_some-push [] None = refl
last_some-push [] (Some x) = refl
last_some-push (p ∷ xs) None = ap (λ k. option_or k p) (last_some-push xs None)
last_some-push (p ∷ xs) (Some x) = ap (λ k. option_or k p) (last_some-push xs (Some x))

first_more : {A : Type 0} (f : said.Part → Option A) (ps : List said.Part) (p : said.Part) → first_some (map f (ps ++ p ∷ [])) ≡ option_or (first_some (map f ps)) (f p)
first_more f ps p = ap first_some (map_push f ps p) ∙ first_some-push (map f ps) (f p)

last_more : {A : Type 0} (f : said.Part → Option A) (ps : List said.Part) (p : said.Part) → last_some (map f (ps ++ p ∷ [])) ≡ option_or (f p) (last_some (map f ps))
last_more f ps p = ap last_some (map_push f ps p) ∙ last_some-push (map f ps) (f p)

or_none : {A : Type 0} (o : Option A) → option_or o None ≡ o
or_none None = refl
or_none (Some x) = refl

-- a part that has nothing of a kind leaves the first of that kind
pub first_stays : {A : Type 0} (f : said.Part → Option A) (ps : List said.Part) (p : said.Part) → f p ≡ None → first_some (map f ps) ≡ first_some (map f (ps ++ p ∷ []))
first_stays f ps p none = sym (first_more f ps p ∙ ap (option_or (first_some (map f ps))) none ∙ or_none (first_some (map f ps)))

-- a part that has the first of its kind
pub first_comes : {A : Type 0} (f : said.Part → Option A) (ps : List said.Part) (p : said.Part) → first_some (map f ps) ≡ None → f p ≡ first_some (map f (ps ++ p ∷ []))
first_comes f ps p none = sym (first_more f ps p ∙ ap (λ o. option_or o (f p)) none)

last_stays : {A : Type 0} (f : said.Part → Option A) (ps : List said.Part) (p : said.Part) → f p ≡ None → last_some (map f ps) ≡ last_some (map f (ps ++ p ∷ []))
last_stays f ps p none = sym (last_more f ps p ∙ ap (λ o. option_or o (last_some (map f ps))) none)

-- ---- the room that is left

pub statements_push : (ps : List said.Part) (p : said.Part) → flat_map statements_of (ps ++ p ∷ []) ≡ flat_map statements_of ps ++ statements_of p
statements_push [] p = append-nil (statements_of p)
statements_push (q ∷ ps) p = ap (λ k. statements_of q ++ k) (statements_push ps p) ∙ sym (append_assoc (statements_of q) (flat_map statements_of ps) (statements_of p))

room_stays : (ps : List said.Part) (p : said.Part) → statements_of p ≡ [] → room_of ps ≡ room_of (ps ++ p ∷ [])
room_stays ps p none = ap (room_after whole_room) (sym (statements_push ps p ∙ ap (λ k. flat_map statements_of ps ++ k) none ∙ append-nil (flat_map statements_of ps)))

room_goes : (text : List ℕ) (room : Room) (ps : List said.Part) (p : said.Part) (ss : List NetStatement) → room ≡ room_of ps → statements_of p ≡ map (net_in text) ss → room_less room ss ≡ room_of (ps ++ p ∷ [])
room_goes text room ps p ss is has =
    less_is text room ss ∙ ap (λ r. room_after r (map (net_in text) ss)) is ∙ behind_both whole_room (flat_map statements_of ps) (map (net_in text) ss)
    ∙ ap (λ k. room_after whole_room (flat_map statements_of ps ++ k)) (sym has) ∙ ap (room_after whole_room) (sym (statements_push ps p))

-- ---- one more part

pub one_more_part : (text : List ℕ) (s : Sections) (ps : List said.Part) (p : Part) → AreOf text s ps → IsFresh s p → AreOf text (with_part s p) (ps ++ part_in text p ∷ [])
one_more_part text s ps Passed a fresh =
    let p = said.Passed in
    record {
      units = a.units ∙ last_stays units_of ps p refl;
      comps = a.comps ∙ first_stays comps_of ps p refl;
      pins = a.pins ∙ first_stays pins_of ps p refl;
      special = a.special ∙ first_stays special_of ps p refl;
      nets = a.nets ∙ first_stays nets_of ps p refl;
      room = a.room ∙ room_stays ps p refl;
    }
one_more_part text s ps (Units n) a fresh =
    let p = said.Units n in
    record {
      units = sym (last_more units_of ps p);
      comps = a.comps ∙ first_stays comps_of ps p refl;
      pins = a.pins ∙ first_stays pins_of ps p refl;
      special = a.special ∙ first_stays special_of ps p refl;
      nets = a.nets ∙ first_stays nets_of ps p refl;
      room = a.room ∙ room_stays ps p refl;
    }
one_more_part text s ps (Comps cs) a fresh =
    let p = said.Comps (map (comp_in text) cs) in
    record {
      units = a.units ∙ last_stays units_of ps p refl;
      comps = first_comes comps_of ps p (sym a.comps ∙ ap (option_map (λ cs. map (comp_in text) cs)) fresh);
      pins = a.pins ∙ first_stays pins_of ps p refl;
      special = a.special ∙ first_stays special_of ps p refl;
      nets = a.nets ∙ first_stays nets_of ps p refl;
      room = a.room ∙ room_stays ps p refl;
    }
one_more_part text s ps (Pins pins) a fresh =
    let p = said.Pins (map (pin_in text) pins) in
    record {
      units = a.units ∙ last_stays units_of ps p refl;
      comps = a.comps ∙ first_stays comps_of ps p refl;
      pins = first_comes pins_of ps p (sym a.pins ∙ ap (option_map (λ ps. map (pin_in text) ps)) fresh);
      special = a.special ∙ first_stays special_of ps p refl;
      nets = a.nets ∙ first_stays nets_of ps p refl;
      room = a.room ∙ room_stays ps p refl;
    }
one_more_part text s ps (Special ss) a fresh =
    let p = said.Special (map (net_in text) ss) in
    record {
      units = a.units ∙ last_stays units_of ps p refl;
      comps = a.comps ∙ first_stays comps_of ps p refl;
      pins = a.pins ∙ first_stays pins_of ps p refl;
      special = first_comes special_of ps p (sym a.special ∙ ap (option_map (λ ss. map (net_in text) ss)) fresh);
      nets = a.nets ∙ first_stays nets_of ps p refl;
      room = room_goes text s.room ps p ss a.room refl;
    }
one_more_part text s ps (Nets ns) a fresh =
    let p = said.Nets (section_in text ns) in
    record {
      units = a.units ∙ last_stays units_of ps p refl;
      comps = a.comps ∙ first_stays comps_of ps p refl;
      pins = a.pins ∙ first_stays pins_of ps p refl;
      special = a.special ∙ first_stays special_of ps p refl;
      nets = first_comes nets_of ps p (sym a.nets ∙ ap (option_map (section_in text)) fresh);
      room = room_goes text s.room ps p ns.nets a.room refl;
    }

-- ---- which sections have stood

first_is_some : {A : Type 0} (o : Option A) (os : List (Option A)) → is_some (first_some (o ∷ os)) ≡ (is_some o || is_some (first_some os))
first_is_some None os = refl
first_is_some (Some x) os = refl

pub have_some : {A : Type 0} (f : said.Part → Option A) (k : Kind) (ps : List said.Part) → ((p : said.Part) → is_some (f p) ≡ same_kind k (kind_of p)) → is_some (first_some (map f ps)) ≡ have ps k
have_some f k [] each = refl
have_some f k (p ∷ ps) each = first_is_some (f p) (map f ps) ∙ ap (λ b. b || is_some (first_some (map f ps))) (each p) ∙ ap (λ b. same_kind k (kind_of p) || b) (have_some f k ps each)

pub comps_kind : (p : said.Part) → is_some (comps_of p) ≡ same_kind CompKind (kind_of p)
comps_kind said.Passed = refl
comps_kind (said.Units n) = refl
comps_kind (said.Comps cs) = refl
comps_kind (said.Pins ps) = refl
comps_kind (said.Special ss) = refl
comps_kind (said.Nets s) = refl

pub pins_kind : (p : said.Part) → is_some (pins_of p) ≡ same_kind PinKind (kind_of p)
pins_kind said.Passed = refl
pins_kind (said.Units n) = refl
pins_kind (said.Comps cs) = refl
pins_kind (said.Pins ps) = refl
pins_kind (said.Special ss) = refl
pins_kind (said.Nets s) = refl

pub special_kind : (p : said.Part) → is_some (special_of p) ≡ same_kind SpecialKind (kind_of p)
special_kind said.Passed = refl
special_kind (said.Units n) = refl
special_kind (said.Comps cs) = refl
special_kind (said.Pins ps) = refl
special_kind (said.Special ss) = refl
special_kind (said.Nets s) = refl

pub nets_kind : (p : said.Part) → is_some (nets_of p) ≡ same_kind NetKind (kind_of p)
nets_kind said.Passed = refl
nets_kind (said.Units n) = refl
nets_kind (said.Comps cs) = refl
nets_kind (said.Pins ps) = refl
nets_kind (said.Special ss) = refl
nets_kind (said.Nets s) = refl

no_kind : (ps : List said.Part) → false ≡ have ps NoKind
no_kind [] = refl
no_kind (p ∷ ps) = no_kind ps ∙ ap (λ b. b || have ps NoKind) (none (kind_of p))
  where
    none : (k : Kind) → false ≡ same_kind NoKind k
    none CompKind = refl
    none PinKind = refl
    none SpecialKind = refl
    none NetKind = refl
    none NoKind = refl

-- the sections that have stood are those that the parts have
pub seen_is : (text : List ℕ) (s : Sections) (ps : List said.Part) → AreOf text s ps → (k : Kind) → seen_in s k ≡ have ps k
seen_is text s ps a CompKind = sym (is_some-map (λ cs. map (comp_in text) cs) s.comps) ∙ ap is_some a.comps ∙ have_some comps_of CompKind ps comps_kind
seen_is text s ps a PinKind = sym (is_some-map (λ ps. map (pin_in text) ps) s.pins) ∙ ap is_some a.pins ∙ have_some pins_of PinKind ps pins_kind
seen_is text s ps a SpecialKind = sym (is_some-map (λ ss. map (net_in text) ss) s.special) ∙ ap is_some a.special ∙ have_some special_of SpecialKind ps special_kind
seen_is text s ps a NetKind = sym (is_some-map (section_in text) s.nets) ∙ ap is_some a.nets ∙ have_some nets_of NetKind ps nets_kind
seen_is text s ps a NoKind = no_kind ps

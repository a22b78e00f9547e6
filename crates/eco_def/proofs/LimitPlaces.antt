-- Where Limit stands: at the first statement or joint above a limit.
use Rattle.std.specs.List.{flat_map}
use Rattle.std.proofs.Common.{◌≡◌, ◌⊎◌, inl, inr, ℕ, zero, suc, ◌-◌, ◌≤◌, nat_lt, Bool, true, false, not, List, [], ◌∷◌, ◌++◌, length, map, Option, Some, None, Result, Ok, Err, refl, ap, sym, ◌∙◌, arith, length-append, codes, if◌then◌else◌}
use Rattle.std.proofs.lemmas.Bool.{ltb-true, ltb-false}
use Rattle.eco_common.specs.declared.limits.TheConstants.{MAX_COMPS, MAX_TOP_PINS}
use Rattle.eco_text.specs.Words.{Token, Walk, finished, open_quote, word_then, walk_of}
use Rattle.eco_def.specs.declared.fault.DefFault.{DefFault}
use Rattle.eco_def.specs.declared.fault.DefFault.TheVariants.{BadStatement, TwiceNamed, MustJoin, UnknownHeading, Limit}
use Rattle.eco_def.specs.declared.room.Room.{Room}
use Rattle.eco_def.specs.Parsing.{Parser, ◌>>=◌, then_read, give, refuse, any, choose, begins, where_room, word, name, new_name_within, new_name, many_for, many, size}
use Rattle.eco_text.specs.Tokens.{is_word, is_name}
use Rattle.eco_common.specs.NameBytes.{is_among}
use Rattle.eco_common.specs.Options.{first_some}
use Rattle.eco_def.specs.Design.{Comp, Joint, Net, NetSection, Part, Comps, Pins, Special, Nets}
use Rattle.eco_def.specs.Grammar.{whole_room, comp_place, comp_new_within, comp_within, comp, comp_section_within, pin_named, top_pin_new_within, top_pin_within, top_pin, pin_section_within, joint, joint_within, joints_within, net_tail, net_name_within, net_name, net_new_within, net_within, net, nets_within, special_section_within, net_section_within, section_head, section_end, Kind, CompKind, PinKind, SpecialKind, NetKind, have, once, statements_of, units, passed_section, passed_up_to, part_new_within, part_within, part, end_design, parts_within, last_some, units_of, comps_of, nets_of, design_from, design_read, joint_count, room_after}
use Rattle.eco_def.specs.Limits.{first_values, NameAbove, JointAbove, NetsFull, IsAbove, CompAbove, PinAbove, SpecialNetAbove, NetAbove, SpecialJointAbove, NetJointAbove, HaveRoom, PartsKeep, LimitStands}
use Rattle.eco_def.proofs.Limited.{Limited}
use Rattle.eco_def.proofs.Quiet.{Quiet, fault_same, no_fault, bad, quiet_refuse, quiet_give, quiet_then, quiet_word, quiet_name, quiet_comp_place, quiet_head, quiet_end, quiet_pin_named, quiet_joint, quiet_net_tail, quiet_units, quiet_passed_section, quiet_passed_up_to, quiet_end_design}
use Rattle.eco_def.proofs.LimitedStatements.{AtMost, full_net_name, limited_comp, limited_pin, limited_joint, limited_net}
use Rattle.eco_def.proofs.LimitedParts.{limited_one}
use Rattle.eco_def.proofs.Rooms.{joint_count-append}

-- ---- the reading that answers Limit

-- the second of two readings
pub record Second {A B : Type 0} (p : Parser A) (f : A → Parser B) (u : Walk) (place : ℕ) : Type 0 where
  pub value : A
  pub rest : Walk
  pub read : p u ≡ Ok (value, rest)
  pub next : f value rest ≡ Err (Limit place)

limit_then : {A B : Type 0} (p : Parser A) (f : A → Parser B) (u : Walk) (place : ℕ) → Quiet p → (p >>= f) u ≡ Err (Limit place) → Second p f u place
limit_then {A} {B} p f u place quiet is = go (p u) refl is
  where
    go : (r : Result (A × Walk) DefFault) → p u ≡ r → then_read r f ≡ Err (Limit place) → Second p f u place
    go (Ok x) read is = record { value = x.0; rest = x.1; read = read; next = is }
    go (Err e) read is = let same : e ≡ Limit place = fault_same e (Limit place) is in absurd (quiet u place (cc))

-- the first of two readings
limit_first : {A B : Type 0} (p : Parser A) (f : A → Parser B) (u : Walk) (place : ℕ) → ((x : A) → Quiet (f x)) → (p >>= f) u ≡ Err (Limit place) → p u ≡ Err (Limit place)
limit_first {A} {B} p f u place quiet is = go (p u) is
  where
    go : (r : Result (A × Walk) DefFault) → then_read r f ≡ Err (Limit place) → r ≡ Err (Limit place)
    go (Ok x) is = absurd (quiet x.0 x.1 place is)
    go (Err e) is = let same : e ≡ Limit place = fault_same e (Limit place) is in cc

-- what follows from a reading's Limit
abbrev To : (Walk → ℕ → Type 0) → Parser Part → Type 0
To C p = (u : Walk) (place : ℕ) → p u ≡ Err (Limit place) → C u place

to_quiet : (C : Walk → ℕ → Type 0) (p : Parser Part) → Quiet p → To C p
to_quiet C p quiet u place is = absurd (quiet u place is)

to_choose : (C : Walk → ℕ → Type 0) (t : Token → Bool) (p q : Parser Part) → To C p → To C q → To C (choose t p q)
to_choose C t p q on off u place is = go (begins t u) is
  where
    go : (b : Bool) → (if b then p u else q u) ≡ Err (Limit place) → C u place
    go true is = on u place is
    go false is = off u place is

to_once : (C : Walk → ℕ → Type 0) (seen : Kind → Bool) (kind : Kind) (section : Parser Part) → (seen kind ≡ false → To C section) → To C (once seen kind section)
to_once C seen kind section each u place is = go (seen kind) refl is
  where
    go : (b : Bool) → seen kind ≡ b → (if b then refuse TwiceNamed u else section u) ≡ Err (Limit place) → C u place
    go true stood is = absurd (quiet_refuse TwiceNamed (λ a b is. cc) u place is)
    go false fresh is = each fresh u place is

-- what a reading with limits reads, the other reads as well
limited_ok : {A : Type 0} (In : A → Type 0) (r s : Result (A × Walk) DefFault) (x : A) (v : Walk) → Limited In r s → r ≡ Ok (x, v) → (s ≡ Ok (x, v)) × In x
limited_ok In r s x v (inl l) is = (sym l.0 ∙ is, l.1 x v (sym l.0 ∙ is))
limited_ok In r s x v (inr l) is = let limit = l.0.1 in cc

-- of values one after another, those before the one that answers Limit
pub record Comes {A : Type 0} (goes : Token → Bool) (p q : List A → Parser A) (In : List A → Type 0) (xs : List A) (u : Walk) (place : ℕ) : Type 0 where
  pub count : ℕ
  pub values : List A
  pub rest : Walk
  pub read : first_values count q xs u ≡ Ok (values, rest)
  pub within : In values
  pub begun : begins goes rest ≡ true
  pub next : p values rest ≡ Err (Limit place)

module _ (A : Type 0) (goes : Token → Bool) (p q : List A → Parser A) (In : List A → Type 0) (each : (xs : List A) (u : Walk) → begins goes u ≡ true → In xs → Limited (λ x. In (xs ++ x ∷ [])) (p xs u) (q xs u)) where
  limit_for : (n : ℕ) (xs : List A) (u : Walk) (place : ℕ) → In xs → many_for n goes p xs u ≡ Err (Limit place) → Comes goes p q In xs u place
  limit_for zero xs u place within is = absurd (quiet_refuse BadStatement bad u place is)
  limit_for (suc n) xs u place within is = go (begins goes u) refl (λ x v within is. limit_for n (xs ++ x ∷ []) v place within is) is
    where
      one : begins goes u ≡ true → ((x : A) (v : Walk) → In (xs ++ x ∷ []) → many_for n goes p (xs ++ x ∷ []) v ≡ Err (Limit place) → Comes goes p q In (xs ++ x ∷ []) v place) →
          (r : Result (A × Walk) DefFault) → p xs u ≡ r → then_read r (λ x. many_for n goes p (xs ++ x ∷ [])) ≡ Err (Limit place) → Comes goes p q In xs u place
      one on rec (Ok x) read is =
          let same = limited_ok (λ x. In (xs ++ x ∷ [])) (p xs u) (q xs u) x.0 x.1 (each xs u on within) read in
          let more = rec x.0 x.1 same.1 is in
          record {
            count = suc more.count;
            values = more.values;
            rest = more.rest;
            read = ap (λ r. then_read r (λ x. first_values more.count q (xs ++ x ∷ []))) same.0 ∙ more.read;
            within = more.within;
            begun = more.begun;
            next = more.next;
          }
      one on rec (Err e) read is = let same : e ≡ Limit place = fault_same e (Limit place) is in record { count = 0; values = xs; rest = u; read = refl; within = within; begun = on; next = cc }

      go : (b : Bool) → begins goes u ≡ b → ((x : A) (v : Walk) → In (xs ++ x ∷ []) → many_for n goes p (xs ++ x ∷ []) v ≡ Err (Limit place) → Comes goes p q In (xs ++ x ∷ []) v place) →
          (if b then then_read (p xs u) (λ x. many_for n goes p (xs ++ x ∷ [])) else Ok (xs, u)) ≡ Err (Limit place) → Comes goes p q In xs u place
      go true on rec is = one on rec (p xs u) refl is
      go false off rec is = no_fault (xs, u) (Limit place) is

  limit_many : (u : Walk) (place : ℕ) → In [] → many goes p u ≡ Err (Limit place) → Comes goes p q In [] u place
  limit_many u place within is = limit_for (suc (size u)) [] u place within is

-- ---- names

pub record NameLimit (room : Bool) (named : Parser Token) (u : Walk) (place : ℕ) : Type 0 where
  pub none : room ≡ false
  pub name : Token
  pub rest : Walk
  pub read : named u ≡ Ok (name, rest)
  pub here : name.start ≡ place

limit_name : (room : Bool) (known : List ℕ → Bool) (u : Walk) (place : ℕ) → new_name_within room known u ≡ Err (Limit place) → NameLimit room (new_name known) u place
limit_name room known (finished at) place is = cc
limit_name room known (open_quote at) place is = cc
limit_name room known (word_then w u) place is = go (is_name w) (known w.bytes) refl refl room is
  where
    go : (n k : Bool) → is_name w ≡ n → known w.bytes ≡ k → (room : Bool) →
        (if n then (if k then refuse TwiceNamed (word_then w u) else where_room room any (word_then w u)) else refuse BadStatement (word_then w u)) ≡ Err (Limit place) → NameLimit room (new_name known) (word_then w u) place
    go true false named new true is = no_fault (w, u) (Limit place) is
    go true false named new false is = record {
      none = refl;
      name = w;
      rest = u;
      read = ap (λ n. if n then (if known w.bytes then refuse TwiceNamed (word_then w u) else any (word_then w u)) else refuse BadStatement (word_then w u)) named
          ∙ ap (λ k. if k then refuse TwiceNamed (word_then w u) else any (word_then w u)) new;
      here = cc;
    }
    go true true named new room is = cc
    go false k named new room is = cc

limit_net_name : (room : Bool) (known : List ℕ → Bool) (u : Walk) (place : ℕ) → net_name_within room known u ≡ Err (Limit place) → NameLimit room (net_name known) u place
limit_net_name room known u place is = go (begins (is_word (codes "MUSTJOIN")) u) refl is
  where
    go : (b : Bool) → begins (is_word (codes "MUSTJOIN")) u ≡ b → (if b then refuse MustJoin u else new_name_within room known u) ≡ Err (Limit place) → NameLimit room (net_name known) u place
    go true on is = absurd (quiet_refuse MustJoin (λ a b is. cc) u place is)
    go false off is =
        let n = limit_name room known u place is in
        record { none = n.none; name = n.name; rest = n.rest; read = ap (λ b. if b then refuse MustJoin u else new_name known u) off ∙ n.read; here = n.here }

-- a statement's name, after its -
after_dash : (room : Bool) (named : Parser Token) (u : Walk) (place : ℕ) (dash : Token) (v : Walk) → word (codes "-") u ≡ Ok (dash, v) → NameLimit room named v place → NameLimit room (word (codes "-") >>= λ dash. named) u place
after_dash room named u place dash v read n = record { none = n.none; name = n.name; rest = n.rest; read = ap (λ r. then_read r (λ dash. named)) read ∙ n.read; here = n.here }

limit_comp : (room : Bool) (known : List ℕ → Bool) (u : Walk) (place : ℕ) → comp_new_within room known u ≡ Err (Limit place) → NameLimit room (word (codes "-") >>= λ dash. new_name known) u place
unfolding comp_new_within
limit_comp room known u place is =
    let d = limit_then (word (codes "-")) _ u place (quiet_word (codes "-")) is in
    after_dash room (new_name known) u place d.value d.rest d.read (limit_name room known d.rest place
    (limit_first (new_name_within room known) _ d.rest place (λ n. quiet_then name _ quiet_name (λ model. quiet_then comp_place _ quiet_comp_place (λ at. quiet_then (word (codes ";")) _ (quiet_word _) (λ end. quiet_give _)))) d.next))

limit_pin : (room : Bool) (known : List ℕ → Bool) (u : Walk) (place : ℕ) → top_pin_new_within room known u ≡ Err (Limit place) → NameLimit room (word (codes "-") >>= λ dash. new_name known) u place
unfolding top_pin_new_within
limit_pin room known u place is =
    let d = limit_then (word (codes "-")) _ u place (quiet_word (codes "-")) is in
    after_dash room (new_name known) u place d.value d.rest d.read (limit_name room known d.rest place
    (limit_first (new_name_within room known) _ d.rest place (λ n. quiet_then (pin_named n) _ (quiet_pin_named n) (λ pin. quiet_then (word (codes ";")) _ (quiet_word _) (λ end. quiet_give pin))) d.next))

-- ---- sections

-- the statements of a section before the one that answers Limit
pub record SectionComes {A : Type 0} (heading : List ℕ) (p q : List A → Parser A) (In : List A → Type 0) (u : Walk) (place : ℕ) : Type 0 where
  pub head : Token
  pub start : Walk
  pub comes : Comes (is_word (codes "-")) p q In [] start place
  pub read : (section_head heading >>= λ head. first_values comes.count q []) u ≡ Ok (comes.values, comes.rest)

limit_section : {A : Type 0} (heading : List ℕ) (p q : List A → Parser A) (In : List A → Type 0) (f : Token → List A → Parser Part) → ((xs : List A) (u : Walk) → begins (is_word (codes "-")) u ≡ true → In xs → Limited (λ x. In (xs ++ x ∷ [])) (p xs u) (q xs u)) → In [] → ((c : Token) (xs : List A) → Quiet (f c xs)) →
    (u : Walk) (place : ℕ) → (section_head heading >>= λ count. many (is_word (codes "-")) p >>= f count) u ≡ Err (Limit place) → SectionComes heading p q In u place
limit_section {A} heading p q In f each none quiet u place is =
    let h = limit_then (section_head heading) (λ count. many (is_word (codes "-")) p >>= f count) u place (quiet_head heading) is in
    let c = limit_many A (is_word (codes "-")) p q In each h.rest place none (limit_first (many (is_word (codes "-")) p) (f h.value) h.rest place (quiet h.value) h.next) in
    record { head = h.value; start = h.rest; comes = c; read = ap (λ r. then_read r (λ head. first_values c.count q [])) h.read ∙ c.read }

-- as many as may stand
full_by : (n m : ℕ) → n ≤ m → nat_lt n m ≡ false → n ≡ m
full_by n m few none = let no = ltb-false n m none in omega arith

comps_above : (u : Walk) (place : ℕ) → comp_section_within (Some MAX_COMPS) u ≡ Err (Limit place) → NameAbove (codes "COMPONENTS") comp new_name (λ c. c.name.bytes) (λ cs. length cs ≡ MAX_COMPS) u place
unfolding comp_section_within
comps_above u place is =
    let s = limit_section (codes "COMPONENTS") (comp_within (Some MAX_COMPS)) comp (AtMost MAX_COMPS) (λ count cs. section_end (codes "COMPONENTS") >>= λ end. give (Comps cs)) (λ xs u on within. limited_comp xs u within) (omega arith)
    (λ count cs. quiet_then (section_end (codes "COMPONENTS")) _ (quiet_end _) (λ end. quiet_give (Comps cs))) u place is in
    let n = limit_comp (nat_lt (length s.comes.values) MAX_COMPS) (is_among (map (λ c. c.name.bytes) s.comes.values)) s.comes.rest place s.comes.next in
    record { count = s.comes.count; before = s.comes.values; at = s.comes.rest; name = n.name; rest = n.rest; read = s.read; full = full_by (length s.comes.values) MAX_COMPS s.comes.within n.none; next = n.read; here = n.here }

pins_above : (u : Walk) (place : ℕ) → pin_section_within (Some MAX_TOP_PINS) u ≡ Err (Limit place) → NameAbove (codes "PINS") top_pin new_name (λ p. p.name.bytes) (λ pins. length pins ≡ MAX_TOP_PINS) u place
unfolding pin_section_within
pins_above u place is =
    let s = limit_section (codes "PINS") (top_pin_within (Some MAX_TOP_PINS)) top_pin (AtMost MAX_TOP_PINS) (λ count ps. section_end (codes "PINS") >>= λ end. give (Pins ps)) (λ xs u on within. limited_pin xs u within) (omega arith)
    (λ count ps. quiet_then (section_end (codes "PINS")) _ (quiet_end _) (λ end. quiet_give (Pins ps))) u place is in
    let n = limit_pin (nat_lt (length s.comes.values) MAX_TOP_PINS) (is_among (map (λ p. p.name.bytes) s.comes.values)) s.comes.rest place s.comes.next in
    record { count = s.comes.count; before = s.comes.values; at = s.comes.rest; name = n.name; rest = n.rest; read = s.read; full = full_by (length s.comes.values) MAX_TOP_PINS s.comes.within n.none; next = n.read; here = n.here }

-- ---- net statements

-- the joints of a statement before the one that answers Limit
pub record JointLimit (room : Room) (named : Parser Token) (u : Walk) (place : ℕ) : Type 0 where
  pub fits : nat_lt 0 room.nets ≡ true
  pub name : Token
  pub inside : Walk
  pub read : named u ≡ Ok (name, inside)
  pub many : ℕ
  pub joints : List Joint
  pub end : Walk
  pub joined : first_values many (λ js. joint) [] inside ≡ Ok (joints, end)
  pub full : length joints ≡ room.joints
  pub bracket : Token
  pub rest : Walk
  pub next : word (codes "(") end ≡ Ok (bracket, rest)
  pub here : bracket.start ≡ place

pub record BracketLimit (room : Bool) (u : Walk) (place : ℕ) : Type 0 where
  pub none : room ≡ false
  pub bracket : Token
  pub rest : Walk
  pub read : word (codes "(") u ≡ Ok (bracket, rest)
  pub here : bracket.start ≡ place

limit_bracket : (room : Bool) (u : Walk) (place : ℕ) → begins (is_word (codes "(")) u ≡ true → where_room room joint u ≡ Err (Limit place) → BracketLimit room u place
limit_bracket true u place on is = absurd (quiet_joint u place is)
limit_bracket false (finished at) place on is = cc
limit_bracket false (open_quote at) place on is = cc
limit_bracket false (word_then w u) place on is = record { none = refl; bracket = w; rest = u; read = ap (λ b. if b then any (word_then w u) else refuse BadStatement (word_then w u)) on; here = cc }

limit_joints : (room : Room) (named : Parser Token) (u : Walk) (place : ℕ) (n : Token) (v : Walk) → nat_lt 0 room.nets ≡ true → named u ≡ Ok (n, v) → joints_within (Some room.joints) v ≡ Err (Limit place) → JointLimit room named u place
limit_joints room named u place n v fits read is =
    let c = limit_many Joint (is_word (codes "(")) (joint_within (Some room.joints)) (λ js. joint) (AtMost room.joints) (limited_joint room.joints) v place (omega arith) is in
    let b = limit_bracket (nat_lt (length c.values) room.joints) c.rest place c.begun c.next in
    record { fits = fits; name = n; inside = v; read = read; many = c.count; joints = c.values; end = c.rest; joined = c.read; full = full_by (length c.values) room.joints c.within b.none; bracket = b.bracket; rest = b.rest; next = b.read; here = b.here }

limit_net : (room : Room) (known : List ℕ → Bool) (u : Walk) (place : ℕ) → net_new_within (Some room) known u ≡ Err (Limit place) →
    NameLimit (nat_lt 0 room.nets) (word (codes "-") >>= λ dash. net_name known) u place ⊎ JointLimit room (word (codes "-") >>= λ dash. net_name known) u place
unfolding net_new_within
limit_net room known u place is =
    let d = limit_then (word (codes "-")) _ u place (quiet_word (codes "-")) is in
    named d.value d.rest d.read (nat_lt 0 room.nets) refl d.next
  where
    inner : (dash : Token) (v : Walk) → word (codes "-") u ≡ Ok (dash, v) → nat_lt 0 room.nets ≡ true → (n : Token) (w : Walk) → net_name known v ≡ Ok (n, w) →
        (joints_within (Some room.joints) >>= λ js. net_tail >>= λ usage. word (codes ";") >>= λ end. give (let m : Net = record { name = n; start = dash.start; end = end.end; usage = usage; joints = js } in m)) w ≡ Err (Limit place) → JointLimit room (word (codes "-") >>= λ dash. net_name known) u place
    inner dash v read fits n w named is =
        limit_joints room (word (codes "-") >>= λ dash. net_name known) u place n w fits (ap (λ r. then_read r (λ dash. net_name known)) read ∙ named)
        (limit_first (joints_within (Some room.joints)) _ w place (λ js. quiet_then net_tail _ quiet_net_tail (λ usage. quiet_then (word (codes ";")) _ (quiet_word _) (λ end. quiet_give _))) is)

    named : (dash : Token) (v : Walk) → word (codes "-") u ≡ Ok (dash, v) → (b : Bool) → nat_lt 0 room.nets ≡ b →
        (net_name_within b known >>= λ n. joints_within (Some room.joints) >>= λ js. net_tail >>= λ usage. word (codes ";") >>= λ end. give (let m : Net = record { name = n; start = dash.start; end = end.end; usage = usage; joints = js } in m)) v ≡ Err (Limit place) →
        NameLimit (nat_lt 0 room.nets) (word (codes "-") >>= λ dash. net_name known) u place ⊎ JointLimit room (word (codes "-") >>= λ dash. net_name known) u place
    named dash v read b same is = first (net_name_within b known v) refl is
      where
        first : (r : Result (Token × Walk) DefFault) → net_name_within b known v ≡ r → then_read r (λ n. joints_within (Some room.joints) >>= λ js. net_tail >>= λ usage. word (codes ";") >>= λ end. give (let m : Net = record { name = n; start = dash.start; end = end.end; usage = usage; joints = js } in m)) ≡ Err (Limit place) →
            NameLimit (nat_lt 0 room.nets) (word (codes "-") >>= λ dash. net_name known) u place ⊎ JointLimit room (word (codes "-") >>= λ dash. net_name known) u place
        first (Ok x) named is = inr (joints b same named)
          where
            joints : (b : Bool) → nat_lt 0 room.nets ≡ b → net_name_within b known v ≡ Ok x → JointLimit room (word (codes "-") >>= λ dash. net_name known) u place
            joints true fits named = inner dash v read fits x.0 x.1 named is
            joints false full named = absurd ((limited_ok (λ n. ⊥) (net_name_within false known v) (net_name known v) x.0 x.1 (full_net_name known v) named).1)
        first (Err e) named is =
            let e_is : e ≡ Limit place = fault_same e (Limit place) is in
            let n = limit_net_name b known v place (cc) in
            inl (after_dash (nat_lt 0 room.nets) (net_name known) u place dash v read (record { none = same ∙ n.none; name = n.name; rest = n.rest; read = n.read; here = n.here }))

-- ---- sections of nets

-- the name above, or the joint above
abbrev pub NetLimit : List ℕ → List Net → Walk → ℕ → Type 0
NetLimit heading earlier u place = NameAbove heading net net_name (λ s. s.name.bytes) (NetsFull earlier) u place ⊎ JointAbove heading earlier u place

nets_above : (heading : List ℕ) (earlier : List Net) (f : Token → List Net → Parser Part) → ((c : Token) (ns : List Net) → Quiet (f c ns)) → HaveRoom whole_room earlier → (u : Walk) (place : ℕ) →
    (section_head heading >>= λ count. nets_within (Some (let r : Room = record { nets = whole_room.nets - length earlier; joints = whole_room.joints - joint_count earlier } in r)) >>= f count) u ≡ Err (Limit place) → NetLimit heading earlier u place
nets_above heading earlier f quiet keep u place is =
    let room : Room = record { nets = whole_room.nets - length earlier; joints = whole_room.joints - joint_count earlier } in
    let s = limit_section heading (net_within (Some room)) net (HaveRoom room) f (λ xs u on within. limited_net room xs u within) (record { nets = omega arith; joints = omega arith }) quiet u place is in
    let ns = s.comes.values in
    let long = length-append earlier ns in
    let joined = joint_count-append earlier ns in
    let within = s.comes.within in
    elim (limit_net (record { nets = room.nets - length ns; joints = room.joints - joint_count ns }) (is_among (map (λ s. s.name.bytes) ns)) s.comes.rest place s.comes.next) [
      | inl n ↦ (let none = ltb-false 0 (room.nets - length ns) n.none in
          inl (record {
            count = s.comes.count;
            before = ns;
            at = s.comes.rest;
            name = n.name;
            rest = n.rest;
            read = s.read;
            full = (omega (arith, long, none, within.nets, keep.nets), omega (arith, joined, within.joints, keep.joints));
            next = n.read;
            here = n.here;
          }))
      | inr j ↦ (let some = ltb-true 0 (room.nets - length ns) j.fits in
          inr (record {
            count = s.comes.count;
            before = ns;
            at = s.comes.rest;
            name = j.name;
            inside = j.inside;
            many = j.many;
            joints = j.joints;
            end = j.end;
            bracket = j.bracket;
            rest = j.rest;
            read = s.read;
            fits = omega (arith, long, some);
            named = j.read;
            joined = j.joined;
            full = omega (arith, joined, j.full, within.joints, keep.joints);
            next = j.next;
            here = j.here;
          }))
    ]

special_above : (earlier : List Net) → HaveRoom whole_room earlier → (u : Walk) (place : ℕ) → special_section_within (Some (room_after whole_room earlier)) u ≡ Err (Limit place) → NetLimit (codes "SPECIALNETS") earlier u place
unfolding special_section_within
special_above earlier keep u place is = nets_above (codes "SPECIALNETS") earlier (λ count ns. section_end (codes "SPECIALNETS") >>= λ end. give (Special ns)) (λ count ns. quiet_then (section_end (codes "SPECIALNETS")) _ (quiet_end _) (λ end. quiet_give _)) keep u place is

ordinary_above : (earlier : List Net) → HaveRoom whole_room earlier → (u : Walk) (place : ℕ) → net_section_within (Some (room_after whole_room earlier)) u ≡ Err (Limit place) → NetLimit (codes "NETS") earlier u place
unfolding net_section_within
ordinary_above earlier keep u place is =
    nets_above (codes "NETS") earlier (λ count ns. section_end (codes "NETS") >>= λ end. give (Nets (record { count = count; nets = ns; end = end }))) (λ count ns. quiet_then (section_end (codes "NETS")) _ (quiet_end _) (λ end. quiet_give _)) keep u place is

-- ---- the whole

limit_part : (ps : List Part) → HaveRoom whole_room (flat_map statements_of ps) → To (IsAbove ps) (part_within (Some whole_room) ps)
unfolding part_new_within
limit_part ps keep =
    let C = IsAbove ps in
    let seen = have ps in
    let room : Option Room = Some (room_after whole_room (flat_map statements_of ps)) in
    to_choose C _ _ _ (to_quiet C units quiet_units)
    (to_choose C _ _ _ (to_once C seen CompKind (comp_section_within (Some MAX_COMPS)) (λ fresh u place is. CompAbove fresh (comps_above u place is)))
    (to_choose C _ _ _ (to_once C seen PinKind (pin_section_within (Some MAX_TOP_PINS)) (λ fresh u place is. PinAbove fresh (pins_above u place is)))
    (to_choose C _ _ _ (to_once C seen SpecialKind (special_section_within room) (λ fresh u place is. special u place fresh (special_above (flat_map statements_of ps) keep u place is)))
    (to_choose C _ _ _ (to_once C seen NetKind (net_section_within room) (λ fresh u place is. ordinary u place fresh (ordinary_above (flat_map statements_of ps) keep u place is)))
    (to_choose C _ _ _ (to_quiet C passed_section quiet_passed_section)
    (to_choose C _ _ _ (to_quiet C (passed_up_to (codes ";")) (quiet_passed_up_to (codes ";")))
    (to_choose C _ _ _ (to_quiet C (passed_up_to (codes "ENDEXT")) (quiet_passed_up_to (codes "ENDEXT")))
    (to_quiet C (refuse UnknownHeading) (quiet_refuse UnknownHeading (λ a b is. cc))))))))))
  where
    special : (u : Walk) (place : ℕ) → have ps SpecialKind ≡ false → NetLimit (codes "SPECIALNETS") (flat_map statements_of ps) u place → IsAbove ps u place
    special u place fresh (inl n) = SpecialNetAbove fresh n
    special u place fresh (inr j) = SpecialJointAbove fresh j

    ordinary : (u : Walk) (place : ℕ) → have ps NetKind ≡ false → NetLimit (codes "NETS") (flat_map statements_of ps) u place → IsAbove ps u place
    ordinary u place fresh (inl n) = NetAbove fresh n
    ordinary u place fresh (inr j) = NetJointAbove fresh j

quiet_from : (ps : List Part) (n : Option ℕ) (cs : Option (List Comp)) (ns : Option NetSection) (place : ℕ) → design_from ps n cs ns ≡ Err (Limit place) → ⊥
quiet_from ps None cs ns place is = cc
quiet_from ps (Some n) None ns place is = cc
quiet_from ps (Some n) (Some cs) None place is = cc
quiet_from ps (Some n) (Some cs) (Some ns) place is = cc

limit_parts : (u : Walk) (place : ℕ) → parts_within (Some whole_room) u ≡ Err (Limit place) → Comes (λ w. not (is_word (codes "END") w)) (part_within (Some whole_room)) part PartsKeep [] u place
unfolding parts_within
limit_parts u place is =
    limit_many Part (λ w. not (is_word (codes "END") w)) (part_within (Some whole_room)) part PartsKeep (λ ps v on keep. limited_one ps v keep) u place
    (record { comps = omega arith; pins = omega arith; nets = record { nets = omega arith; joints = omega arith } })
    (limit_first (many (λ w. not (is_word (codes "END") w)) (part_within (Some whole_room))) _ u place (λ ps. quiet_then end_design _ quiet_end_design (λ end. quiet_give ps)) is)

pub limit_places : LimitStands
limit_places text place is =
    let c = limit_parts (walk_of text) place (parsed (parts_within (Some whole_room) (walk_of text)) is) in
    (c.count, c.values, c.rest, c.read, c.within, limit_part c.values c.within.nets c.rest place c.next)
  where
    parsed : (r : Result (List Part × Walk) DefFault) → design_read r ≡ Err (Limit place) → r ≡ Err (Limit place)
    parsed (Ok x) is = absurd (quiet_from x.0 (last_some (map units_of x.0)) (first_some (map comps_of x.0)) (first_some (map nets_of x.0)) place is)
    parsed (Err e) is = let same : e ≡ Limit place = fault_same e (Limit place) is in cc

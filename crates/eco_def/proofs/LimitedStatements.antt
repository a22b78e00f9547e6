-- Statements and sections with limits beside those without.
use Rattle.std.proofs.Common.{◌≡◌, inl, inr, ℕ, suc, ◌+◌, ◌-◌, ◌≤◌, nat_lt, Bool, true, false, List, [], ◌∷◌, ◌++◌, length, map, Option, Some, None, Result, refl, sym, subst, arith, length-append, codes}
use Rattle.std.proofs.lemmas.Bool.{ltb-true, ltb-false}
use Rattle.std.proofs.lemmas.List.Sums.{sum_by-cons}
use Rattle.eco_common.specs.declared.limits.TheConstants.{MAX_COMPS, MAX_TOP_PINS}
use Rattle.eco_text.specs.Words.{Token, Walk, finished, open_quote, word_then}
use Rattle.eco_def.specs.declared.fault.DefFault.{DefFault}
use Rattle.eco_def.specs.declared.fault.DefFault.TheVariants.{BadStatement, TwiceNamed, MustJoin, Limit}
use Rattle.eco_def.specs.declared.room.Room.{Room}
use Rattle.eco_def.specs.Parsing.{Parser, ◌>>=◌, then_read, give, refuse, any, choose, begins, where_room, word, new_name_within, new_name, size}
use Rattle.eco_text.specs.Tokens.{is_word, is_name}
use Rattle.eco_common.specs.NameBytes.{is_among}
use Rattle.eco_def.specs.Design.{Comp, TopPin, Joint, Net, NetSection, Part, Comps, Pins, Special, Nets}
use Rattle.eco_def.specs.Grammar.{joint_count, room_after, comp_new_within, comp_new, comp_within, comp, comps_within, comps, comp_section_within, comp_section, top_pin_new_within, top_pin_new, top_pin_within, top_pin, top_pins_within, pin_section_within, pin_section, joint, joint_within, joints_within, joints, net_tail, net_name_within, net_name, net_new_within, net_new, net_within, net, nets_within, nets, special_section_within, special_section, net_section_within, net_section, section_head, section_end}
use Rattle.eco_def.specs.Limits.{HaveRoom}
use Rattle.eco_def.proofs.Limited.{Limited, Never, refusing, as_well, then_after, then_never, then_before, choosing, all_limited, Gives, gives_then, gives_give, no_value}
use Rattle.eco_def.proofs.Rooms.{joint_count-append}

-- ---- names for which there is no room

full_or_end : (u : Walk) → Limited Never (refuse Limit u) (any u)
full_or_end (finished place) = inl (refl, λ x v is. no_value _ (x, v) is)
full_or_end (open_quote place) = inl (refl, λ x v is. no_value _ (x, v) is)
full_or_end (word_then w u) = inr ((w.start, refl), λ x v is within. within)

full_name : (known : List ℕ → Bool) (u : Walk) → Limited Never (new_name_within false known u) (new_name known u)
full_name known u =
    choosing Never is_name (choose (λ w. known w.bytes) (refuse TwiceNamed) (where_room false any)) (refuse BadStatement) (choose (λ w. known w.bytes) (refuse TwiceNamed) any) (refuse BadStatement) u
    (choosing Never (λ w. known w.bytes) (refuse TwiceNamed) (where_room false any) (refuse TwiceNamed) any u (refusing Never TwiceNamed u) (full_or_end u))
    (refusing Never BadStatement u)

pub full_net_name : (known : List ℕ → Bool) (u : Walk) → Limited Never (net_name_within false known u) (net_name known u)
full_net_name known u = choosing Never (is_word (codes "MUSTJOIN")) (refuse MustJoin) (new_name_within false known) (refuse MustJoin) (new_name known) u (refusing Never MustJoin u) (full_name known u)

length_push : {A : Type 0} (xs : List A) (x : A) → length (xs ++ x ∷ []) ≡ length xs + 1
length_push xs x = length-append xs (x ∷ [])

-- at most so many values
abbrev pub AtMost : {A : Type 0} → ℕ → List A → Type 0
AtMost n xs = length xs ≤ n

at_most_fewer : {A : Type 0} (n : ℕ) (xs : List A) (x : A) → AtMost n (xs ++ x ∷ []) → AtMost n xs
at_most_fewer n xs x within = let more = length_push xs x in omega (arith, more, within)

-- one value more, with room or without
one_of_many : {A : Type 0} (n : ℕ) (before : List A) (r : Bool → Result (A × Walk) DefFault) (s : Result (A × Walk) DefFault) → AtMost n before → r true ≡ s → Limited Never (r false) s → Limited (λ x. AtMost n (before ++ x ∷ [])) (r (nat_lt (length before) n)) s
one_of_many n before r s within open' full = go (nat_lt (length before) n) refl
  where
    go : (b : Bool) → nat_lt (length before) n ≡ b → Limited (λ x. AtMost n (before ++ x ∷ [])) (r b) s
    go true is = inl (open', λ x v read. let more = length_push before x in let room = ltb-true (length before) n is in omega (arith, more, room))
    go false is = as_well Never (λ x. AtMost n (before ++ x ∷ [])) (r false) s (λ x v read never. absurd never) (λ x v read fits. let more = length_push before x in let room = ltb-false (length before) n is in omega (arith, more, room, fits)) full

-- a section's end gives the section
ends_as : (keyword : List ℕ) (x : Part) (P : Part → Type 0) → P x → Gives P (section_end keyword >>= λ end. give x)
ends_as keyword x P holds = gives_then P (section_end keyword) (λ end. give x) (λ end. gives_give P x holds)

-- ---- components

full_comp : (known : List ℕ → Bool) (u : Walk) → Limited Never (comp_new_within false known u) (comp_new known u)
unfolding comp_new_within
full_comp known u = then_after Never (word (codes "-") u) _ _ (λ dash v. then_never (new_name_within false known v) (new_name known v) _ _ (full_name known v))

pub limited_comp : (before : List Comp) (u : Walk) → AtMost MAX_COMPS before → Limited (λ c. AtMost MAX_COMPS (before ++ c ∷ [])) (comp_within (Some MAX_COMPS) before u) (comp before u)
limited_comp before u within =
    let known = is_among (map (λ (c : Comp). c.name.bytes) before) in
    one_of_many MAX_COMPS before (λ b. comp_new_within b known u) (comp_new known u) within refl (full_comp known u)

limited_comps : (u : Walk) → Limited (AtMost MAX_COMPS) (comps_within (Some MAX_COMPS) u) (comps u)
limited_comps u =
    all_limited Comp (is_word (codes "-")) (comp_within (Some MAX_COMPS)) comp (AtMost MAX_COMPS) (at_most_fewer MAX_COMPS)
    (λ before v on within. limited_comp before v within)
    (suc (size u)) [] u (omega arith)

pub limited_comp_section : (P : Part → Type 0) → ((cs : List Comp) → AtMost MAX_COMPS cs → P (Comps cs)) → ((cs : List Comp) → P (Comps cs) → AtMost MAX_COMPS cs) → (u : Walk) → Limited P (comp_section_within (Some MAX_COMPS) u) (comp_section u)
unfolding comp_section_within
limited_comp_section P there back u =
    then_after P (section_head (codes "COMPONENTS") u) _ _ (λ count v.
    then_before (AtMost MAX_COMPS) P (comps_within (Some MAX_COMPS) v) (comps v) (λ cs. section_end (codes "COMPONENTS") >>= λ end. give (Comps cs))
    (λ cs w p r is within. ends_as (codes "COMPONENTS") (Comps cs) P (there cs within) w p r is)
    (λ cs w p r is. ends_as (codes "COMPONENTS") (Comps cs) (λ k. P k → AtMost MAX_COMPS cs) (back cs) w p r is)
    (limited_comps v))

-- ---- top pins

full_pin : (known : List ℕ → Bool) (u : Walk) → Limited Never (top_pin_new_within false known u) (top_pin_new known u)
unfolding top_pin_new_within
full_pin known u = then_after Never (word (codes "-") u) _ _ (λ dash v. then_never (new_name_within false known v) (new_name known v) _ _ (full_name known v))

pub limited_pin : (before : List TopPin) (u : Walk) → AtMost MAX_TOP_PINS before → Limited (λ p. AtMost MAX_TOP_PINS (before ++ p ∷ [])) (top_pin_within (Some MAX_TOP_PINS) before u) (top_pin before u)
limited_pin before u within =
    let known = is_among (map (λ (p : TopPin). p.name.bytes) before) in
    one_of_many MAX_TOP_PINS before (λ b. top_pin_new_within b known u) (top_pin_new known u) within refl (full_pin known u)

limited_pins : (u : Walk) → Limited (AtMost MAX_TOP_PINS) (top_pins_within (Some MAX_TOP_PINS) u) (top_pins_within None u)
limited_pins u =
    all_limited TopPin (is_word (codes "-")) (top_pin_within (Some MAX_TOP_PINS)) top_pin (AtMost MAX_TOP_PINS) (at_most_fewer MAX_TOP_PINS)
    (λ before v on within. limited_pin before v within)
    (suc (size u)) [] u (omega arith)

pub limited_pin_section : (P : Part → Type 0) → ((ps : List TopPin) → AtMost MAX_TOP_PINS ps → P (Pins ps)) → ((ps : List TopPin) → P (Pins ps) → AtMost MAX_TOP_PINS ps) → (u : Walk) → Limited P (pin_section_within (Some MAX_TOP_PINS) u) (pin_section u)
unfolding pin_section_within
limited_pin_section P there back u =
    then_after P (section_head (codes "PINS") u) _ _ (λ count v.
    then_before (AtMost MAX_TOP_PINS) P (top_pins_within (Some MAX_TOP_PINS) v) (top_pins_within None v) (λ ps. section_end (codes "PINS") >>= λ end. give (Pins ps))
    (λ ps w p r is within. ends_as (codes "PINS") (Pins ps) P (there ps within) w p r is)
    (λ ps w p r is. ends_as (codes "PINS") (Pins ps) (λ k. P k → AtMost MAX_TOP_PINS ps) (back ps) w p r is)
    (limited_pins v))

-- ---- nets

pub limited_joint : (room : ℕ) (before : List Joint) (u : Walk) → begins (is_word (codes "(")) u ≡ true → AtMost room before → Limited (λ j. AtMost room (before ++ j ∷ [])) (joint_within (Some room) before u) (joint u)
limited_joint room before u on within = one_of_many room before (λ b. where_room b joint u) (joint u) within refl (full u on)
  where
    full : (u : Walk) → begins (is_word (codes "(")) u ≡ true → Limited Never (refuse Limit u) (joint u)
    full (finished place) on = cc
    full (open_quote place) on = cc
    full (word_then w v) on = inr ((w.start, refl), λ x v is within. within)

limited_joints : (room : ℕ) (u : Walk) → Limited (AtMost room) (joints_within (Some room) u) (joints u)
limited_joints room u = all_limited Joint (is_word (codes "(")) (joint_within (Some room)) (λ before. joint) (AtMost room) (at_most_fewer room) (limited_joint room) (suc (size u)) [] u (omega arith)

joints_push : (ns : List Net) (n : Net) → joint_count (ns ++ n ∷ []) ≡ joint_count ns + length n.joints
joints_push ns n =
    let both = joint_count-append ns (n ∷ []) in
    let one = sum_by-cons (λ (n : Net). length n.joints) n [] in
    omega (arith, both, one)

room_fewer : (room : Room) (ns : List Net) (n : Net) → HaveRoom room (ns ++ n ∷ []) → HaveRoom room ns
room_fewer room ns n within =
    let more = length_push ns n in
    let joints = joints_push ns n in
    record { nets = omega (arith, more, within.nets); joints = omega (arith, joints, within.joints) }

-- a statement after its -
abbrev net_behind : Token → Bool → ℕ → (List ℕ → Bool) → Parser Net
net_behind dash room k known = net_name_within room known >>= λ n. joints_within (Some k) >>= λ js. net_tail >>= λ usage. word (codes ";") >>= λ end. give (record { name = n; start = dash.start; end = end.end; usage = usage; joints = js })

open_net : (k : ℕ) (known : List ℕ → Bool) (u : Walk) → Limited (λ n. AtMost k n.joints) (then_read (word (codes "-") u) (λ dash. net_behind dash true k known)) (net_new known u)
unfolding net_new_within
open_net k known u =
    then_after (λ n. AtMost k n.joints) (word (codes "-") u) _ _ (λ dash v.
    then_after (λ n. AtMost k n.joints) (net_name known v) _ _ (λ n w.
    then_before (AtMost k) (λ n. AtMost k n.joints) (joints_within (Some k) w) (joints w) (λ js. net_tail >>= λ usage. word (codes ";") >>= λ end. give (record { name = n; start = dash.start; end = end.end; usage = usage; joints = js }))
    (λ js x y z is within. tail_gives dash n js (λ m. AtMost k m.joints) (λ end usage. within) x y z is)
    (λ js x y z is. tail_gives dash n js (λ m. AtMost k m.joints → AtMost k js) (λ end usage fits. fits) x y z is)
    (limited_joints k w)))
  where
    tail_gives : (dash n : Token) (js : List Joint) (P : Net → Type 0) → ((end : ℕ) (usage : Option Token) → P (let m : Net = record { name = n; start = dash.start; end = end; usage = usage; joints = js } in m)) →
        Gives P (net_tail >>= λ usage. word (codes ";") >>= λ end. give (record { name = n; start = dash.start; end = end.end; usage = usage; joints = js }))
    tail_gives dash n js P holds = gives_then P net_tail _ (λ usage. gives_then P (word (codes ";")) _ (λ end. gives_give P _ (holds end.end usage)))

full_net : (k : ℕ) (known : List ℕ → Bool) (u : Walk) → Limited Never (then_read (word (codes "-") u) (λ dash. net_behind dash false k known)) (net_new known u)
unfolding net_new_within
full_net k known u = then_after Never (word (codes "-") u) _ _ (λ dash v. then_never (net_name_within false known v) (net_name known v) _ _ (full_net_name known v))

net_by : (room : Room) (known : List ℕ → Bool) (u : Walk) → net_new_within (Some room) known u ≡ then_read (word (codes "-") u) (λ dash. net_behind dash (nat_lt 0 room.nets) room.joints known)
unfolding net_new_within
net_by room known u = refl

pub limited_net : (room : Room) (before : List Net) (u : Walk) → HaveRoom room before → Limited (λ n. HaveRoom room (before ++ n ∷ [])) (net_within (Some room) before u) (net before u)
limited_net room before u within =
    let known = is_among (map (λ s. s.name.bytes) before) in
    subst (λ r. Limited (λ n. HaveRoom room (before ++ n ∷ [])) r (net before u)) (sym (net_by (room_after room before) known u)) (go known (nat_lt 0 (room.nets - length before)) refl)
  where
    go : (known : List ℕ → Bool) (b : Bool) → nat_lt 0 (room.nets - length before) ≡ b → Limited (λ n. HaveRoom room (before ++ n ∷ [])) (then_read (word (codes "-") u) (λ dash. net_behind dash b (room.joints - joint_count before) known)) (net_new known u)
    go known true is =
        as_well (λ n. AtMost (room.joints - joint_count before) n.joints) (λ n. HaveRoom room (before ++ n ∷ [])) _ (net_new known u)
        (λ n v read few.
        let more = length_push before n in
        let joints = joints_push before n in
        let left = ltb-true 0 (room.nets - length before) is in
        record { nets = omega (arith, more, left); joints = omega (arith, joints, few, within.joints) })
        (λ n v read fits. let joints = joints_push before n in omega (arith, joints, fits.joints))
        (open_net (room.joints - joint_count before) known u)
    go known false is =
        as_well Never (λ n. HaveRoom room (before ++ n ∷ [])) _ (net_new known u) (λ n v read never. absurd never)
        (λ n v read fits.
        let more = length_push before n in
        let none = ltb-false 0 (room.nets - length before) is in
        omega (arith, more, none, fits.nets))
        (full_net (room.joints - joint_count before) known u)

limited_nets : (room : Room) (u : Walk) → Limited (HaveRoom room) (nets_within (Some room) u) (nets u)
limited_nets room u =
    all_limited Net (is_word (codes "-")) (net_within (Some room)) net (HaveRoom room) (room_fewer room) (λ before v on within. limited_net room before v within)
    (suc (size u)) [] u (record { nets = omega arith; joints = omega arith })

pub limited_special_section : (P : Part → Type 0) (room : Room) → ((ns : List Net) → HaveRoom room ns → P (Special ns)) → ((ns : List Net) → P (Special ns) → HaveRoom room ns) → (u : Walk) → Limited P (special_section_within (Some room) u) (special_section u)
unfolding special_section_within
limited_special_section P room there back u =
    then_after P (section_head (codes "SPECIALNETS") u) _ _ (λ count v.
    then_before (HaveRoom room) P (nets_within (Some room) v) (nets v) (λ ns. section_end (codes "SPECIALNETS") >>= λ end. give (Special ns))
    (λ ns w p r is within. ends_as (codes "SPECIALNETS") (Special ns) P (there ns within) w p r is)
    (λ ns w p r is. ends_as (codes "SPECIALNETS") (Special ns) (λ k. P k → HaveRoom room ns) (back ns) w p r is)
    (limited_nets room v))

pub limited_net_section : (P : Part → Type 0) (room : Room) → ((s : NetSection) → HaveRoom room s.nets → P (Nets s)) → ((s : NetSection) → P (Nets s) → HaveRoom room s.nets) → (u : Walk) → Limited P (net_section_within (Some room) u) (net_section u)
unfolding net_section_within
limited_net_section P room there back u =
    then_after P (section_head (codes "NETS") u) _ _ (λ count v.
    then_before (HaveRoom room) P (nets_within (Some room) v) (nets v) (λ ns. section_end (codes "NETS") >>= λ end. give (Nets (record { count = count; nets = ns; end = end })))
    (λ ns w p r is within. gives_then P (section_end (codes "NETS")) _ (λ end. gives_give P (Nets (record { count = count; nets = ns; end = end })) (there (record { count = count; nets = ns; end = end }) within)) w p r is)
    (λ ns w p r is. gives_then (λ k. P k → HaveRoom room ns) (section_end (codes "NETS")) _ (λ end. gives_give (λ k. P k → HaveRoom room ns) (Nets (record { count = count; nets = ns; end = end })) (back (record { count = count; nets = ns; end = end }))) w p r is)
    (limited_nets room v))

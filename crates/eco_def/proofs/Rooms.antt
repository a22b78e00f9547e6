-- The room that statements leave.
use Rattle.std.proofs.Common.{◌≡◌, ℕ, ◌+◌, ◌-◌, List, [], ◌∷◌, ◌++◌, length, map, sum_by, refl, ap, sym, ◌∙◌, arith, length-append}
use Rattle.std.proofs.lemmas.List.{length-map}
use Rattle.std.proofs.lemmas.List.Sums.{sum_by-cons}
use Rattle.eco_def.specs.declared.design.NetStatement.{NetStatement}
use Rattle.eco_def.specs.declared.room.Room.{Room}
use Rattle.eco_def.specs.Design as said
use Rattle.eco_def.specs.Grammar.{joint_count, room_after}
use Rattle.eco_def.specs.View.{net_in, joint_in}
use Rattle.eco_def.specs.Sections.{room_less}
use Rattle.eco_def.proofs.Loops.{map_push}

sub_zero : (n : ℕ) → n ≡ n - 0
sub_zero n = omega arith

sub_sub : (n a b : ℕ) → (n - a) - b ≡ n - (a + b)
sub_sub n a b = omega arith

pub joint_count-append : (ns ms : List said.Net) → joint_count (ns ++ ms) ≡ joint_count ns + joint_count ms
joint_count-append [] ms = omega arith
joint_count-append (n ∷ ns) ms =
    let rest = joint_count-append ns ms in
    let whole = sum_by-cons (λ (n : said.Net). length n.joints) n (ns ++ ms) in
    let front = sum_by-cons (λ (n : said.Net). length n.joints) n ns in
    omega (arith, rest, whole, front)

-- no statement leaves all
pub behind_none : (room : Room) → room ≡ room_after room []
behind_none room = ap (λ n. let r : Room = record { nets = n; joints = room.joints } in r) (sub_zero room.nets) ∙ ap (λ n. let r : Room = record { nets = room.nets - 0; joints = n } in r) (sub_zero room.joints)

-- some statements after others
pub behind_both : (room : Room) (ns ms : List said.Net) → room_after (room_after room ns) ms ≡ room_after room (ns ++ ms)
behind_both room ns ms =
    ap (λ n. let r : Room = record { nets = n; joints = room.joints - joint_count ns - joint_count ms } in r) (sub_sub room.nets (length ns) (length ms) ∙ ap (λ n. room.nets - n) (sym (length-append ns ms)))
    ∙ ap (λ n. let r : Room = record { nets = room.nets - length (ns ++ ms); joints = n } in r) (sub_sub room.joints (joint_count ns) (joint_count ms) ∙ ap (λ n. room.joints - n) (sym (joint_count-append ns ms)))

-- the joints of the code's statements are those of the grammar's
pub count_is : (text : List ℕ) (ss : List NetStatement) → joint_count (map (net_in text) ss) ≡ sum_by (λ s. length s.joints) ss
count_is text [] = refl
count_is text (s ∷ ss) =
    sum_by-cons (λ (n : said.Net). length n.joints) (net_in text s) (map (net_in text) ss)
    ∙ ap (λ n. n + joint_count (map (net_in text) ss)) (length-map s.joints (joint_in text)) ∙ ap (λ n. length s.joints + n) (count_is text ss)
    ∙ sym (sum_by-cons (λ (t : NetStatement). length t.joints) s ss)

pub less_is : (text : List ℕ) (room : Room) (ss : List NetStatement) → room_less room ss ≡ room_after room (map (net_in text) ss)
less_is text room ss =
    ap (λ n. let r : Room = record { nets = room.nets - n; joints = room.joints - sum_by (λ (s : NetStatement). length s.joints) ss } in r) (sym (length-map ss (net_in text)))
    ∙ ap (λ n. let r : Room = record { nets = room.nets - length (map (net_in text) ss); joints = room.joints - n } in r) (sym (count_is text ss))

one_joints : (text : List ℕ) (s : NetStatement) → joint_count (net_in text s ∷ []) ≡ length s.joints
one_joints text s =
    let whole = sum_by-cons (λ (n : said.Net). length n.joints) (net_in text s) [] in
    let same = length-map s.joints (joint_in text) in
    omega (arith, whole, same)

-- one statement more
pub behind_more : (text : List ℕ) (room before after : Room) (ss ts : List NetStatement) (s : NetStatement) → before ≡ room_after room (map (net_in text) ss) →
    after ≡ (let r : Room = record { nets = before.nets - 1; joints = before.joints - length s.joints } in r) → ts ≡ ss ++ s ∷ [] → after ≡ room_after room (map (net_in text) ts)
behind_more text room before after ss ts s is one pushed =
    one
    ∙ ap (λ n. let r : Room = record { nets = before.nets - 1; joints = before.joints - n } in r) (sym (one_joints text s))
    ∙ ap (λ r. room_after r (net_in text s ∷ [])) is
    ∙ behind_both room (map (net_in text) ss) (net_in text s ∷ [])
    ∙ ap (room_after room) (sym (map_push (net_in text) ss s) ∙ ap (map (net_in text)) (sym pushed))

-- A statement of a net, as it stands and as it is printed.
use Rattle.std.proofs.Common.{◌≡◌, ℕ, suc, Bool, true, false, not, List, [], ◌∷◌, ◌++◌, map, drop, slice_range, Ok, Option, Some, None, refl, ap, sym, ◌∙◌, subst, arith, true≢false, ◌&&◌, if◌then◌else◌, append_assoc, append-nil, codes}
use Rattle.std.specs.List.{flat_map, filter, list_all}
use Rattle.std.specs.Str.{bytes_eq}
use Rattle.std.proofs.lemmas.Slice.Eq.{bytes_eq-Decides}
use Rattle.eco_text.specs.Words.{Token, Walk, word_then, ◌+++◌}
use Rattle.eco_def.specs.Parsing.{Parser, then_read, ◌>>=◌, give, refuse, begins, any, choose, word, new_name, size}
use Rattle.eco_text.specs.Tokens.{is_word, is_name}
use Rattle.eco_common.specs.NameBytes.{is_among}
use Rattle.eco_def.specs.Design.{Joint, Net}
use Rattle.eco_def.specs.Named.{NamedJoint, NamedNet, joint_names, net_names}
use Rattle.eco_def.specs.Grammar.{joints, some_use, net_clause_new, net_tail, net_name, net_new_within, net}
use Rattle.eco_issued_laws.specs.Printing.{spaced}
use Rattle.eco_issued_laws.specs.Changes.{Changes, is_nil}
use Rattle.eco_issued_laws.specs.Issued.{joint_words, kept_text, use_words, joints_end, tail_text, changed_text, net_text, issued_net}
use Rattle.eco_text.proofs.Stepping.{Closes}
use Rattle.eco_issued_laws.proofs.Faults.{bad_statement, twice_named, must_join}
use Rattle.eco_issued_laws.proofs.Allowed.{usage_name, IsWord, bare, IsName, AllJointsOk}
use Rattle.eco_text.proofs.Splicing.{join}
use Rattle.eco_issued_laws.proofs.Keeping.{Same, SameAll, Always, Reread, Keeps, all_same, cancel, begins_again, Ok_is, split, keeps_then, keeps_as}
use Rattle.eco_issued_laws.proofs.Rules.{tests_word, keeps_word, keeps_joints, keeps_net_tail, keeps_net, SameUse, use_names}
use Rattle.eco_issued_laws.proofs.Pieces.{IsPiece, closes_join, piece_none, piece_join, piece_word}
use Rattle.eco_issued_laws.proofs.Editing.{At, Behind, behind, Before, before, closes_slice}
use Rattle.eco_issued_laws.proofs.Ending.{Ends, Ended, plain_word_is, chosen, refused, any_is, next_is, ends_word, ends_then, ends_as}
use Rattle.eco_issued_laws.proofs.Making.{plain_name, same_bare, at_good, name_of, Makes, makes_keeps, makes_give, makes_then}
use Rattle.eco_issued_laws.proofs.Statements.{UseOk, tail_ok}
use Rattle.eco_issued_laws.proofs.Joints.{Joints, joints_of, AllStand, PrintedAll, printed_added, printed_kept, behind_blank}

-- ---- what stands after the joints

pub tail_end : Parser (Option Token × Token)
tail_end = net_tail >>= λ usage. word (codes ";") >>= λ end. give (usage, end)

keeps_tail : {H : Walk → Walk → Type 0} → Keeps 1 (λ x y. SameUse x.0 y.0 × Same x.1 y.1) H tail_end tail_end
unfolding tail_end
keeps_tail = keeps_then keeps_net_tail (λ u v su. keeps_as _ _ (keeps_word (codes ";")) (λ e f se. (su, se)))

ends_tail : Ends (λ x k. x.1.end ≡ k) tail_end
unfolding tail_end
ends_tail = ends_then keeps_net_tail (λ u. ends_as (λ x k. x.1.end ≡ k) (λ e. (u, e)) (ends_word (codes ";")) (λ e k i. i))

-- bytes that are read as the rest of a statement
pub record PrintedTail (usage : Option (List ℕ)) (bytes : List ℕ) : Type 0 where
  pub words : List Token
  pub piece : IsPiece bytes words
  pub closes : Closes bytes
  pub stops : (fin : Walk) → begins (is_word (codes "(")) (words +++ fin) ≡ false
  pub reads : (fin : Walk) → (y : Option Token × Token) × (tail_end (words +++ fin) ≡ Ok (y, fin)) × (usage_name y.0 ≡ usage)

-- the rest of a statement in the text
pub tail_stands : (text : List ℕ) (q : ℕ) (u : Walk) (x : Option Token × Token) (r : Walk) → At text q u → Closes (drop q text) → begins (is_word (codes "(")) u ≡ false → tail_end u ≡ Ok (x, r) →
    PrintedTail (usage_name x.0) (slice_range text q x.1.end)
tail_stands text q u x r at closed stops e = record {
  words = ed.init ++ ed.last ∷ [];
  piece = subst (λ k. IsPiece (slice_range text q k) (ed.init ++ ed.last ∷ [])) (sym ed.end) bh.piece;
  closes = closes_slice text q x.1.end closed;
  stops = λ fin. begins_again (tests_word (codes "(")) u ((ed.init ++ ed.last ∷ []) +++ fin) (one.ahead (ed.init ++ ed.last ∷ []) fin same tt) ∙ stops;
  reads = λ fin. let y = one.again (ed.init ++ ed.last ∷ []) fin same tt in (y.0, y.1, use_names x.0 y.0.0 y.2.0);
}
  where
    ed : Ended (λ k. x.1.end ≡ k) u r
    ed = ends_tail u x r e

    bh : Behind text q (ed.init ++ ed.last ∷ []) ed.last.end r
    bh = behind text q u ed.init ed.last r at ed.is ed.plain

    one : Reread 1 (λ x y. SameUse x.0 y.0 × Same x.1 y.1) Always tail_end u x r
    one = keeps_tail {H = Always} u x r e

    same : SameAll one.front (ed.init ++ ed.last ∷ [])
    same = subst (λ k. SameAll k (ed.init ++ ed.last ∷ [])) (sym (cancel one.front (ed.init ++ ed.last ∷ []) r (sym one.is ∙ ed.is))) (all_same (ed.init ++ ed.last ∷ []))

-- a use alone
pub tail_printed : (usage : Option Token) → UseOk usage → PrintedTail (usage_name usage) (spaced (use_words usage ++ codes ";" ∷ []))
unfolding tail_end net_tail net_clause_new some_use
tail_printed None ok = record {
  words = bare (codes ";") ∷ [];
  piece = behind_blank (codes ";") [] [] (refl, refl, refl, tt) tt piece_none;
  closes = refl;
  stops = λ fin. refl;
  reads = λ fin. ((None, bare (codes ";")), refl, refl);
}
tail_printed (Some w) ok = record {
  words = bare (codes "+") ∷ bare (codes "USE") ∷ bare w.bytes ∷ bare (codes ";") ∷ [];
  piece =
      behind_blank (codes "+") (spaced (codes "USE" ∷ w.bytes ∷ codes ";" ∷ [])) (bare (codes "USE") ∷ bare w.bytes ∷ bare (codes ";") ∷ []) (refl, refl, refl, tt) refl
      (behind_blank (codes "USE") (spaced (w.bytes ∷ codes ";" ∷ [])) (bare w.bytes ∷ bare (codes ";") ∷ []) (refl, refl, refl, (refl, (refl, tt))) refl
      (behind_blank w.bytes (spaced (codes ";" ∷ [])) (bare (codes ";") ∷ []) ok.0 refl
      (behind_blank (codes ";") [] [] (refl, refl, refl, tt) tt piece_none)));
  closes = refl;
  stops = λ fin. refl;
  reads = λ fin. ((Some (bare w.bytes), bare (codes ";")), rw ok.1 refl, refl);
}

-- ---- a statement in the text

pub record NetRead (xs : List Net) (u : Walk) (s : Net) (r : Walk) : Type 0 where
  pub dash : Token
  pub u1 : Walk
  pub dash_is : u ≡ word_then dash u1
  pub dashed : is_word (codes "-") dash ≡ true
  pub start : s.start ≡ dash.start
  pub u2 : Walk
  pub name_is : u1 ≡ word_then s.name u2
  pub named : is_name s.name ≡ true
  pub may : is_word (codes "MUSTJOIN") s.name ≡ false
  pub new : is_among (map (λ k. k.name.bytes) xs) s.name.bytes ≡ false
  pub u3 : Walk
  pub joints_is : joints u2 ≡ Ok (s.joints, u3)
  pub last : Token
  pub tail_is : tail_end u3 ≡ Ok ((s.usage, last), r)
  pub end : s.end ≡ last.end

-- a new name, and what it passes
record NewName (names : List (List ℕ)) (u : Walk) (n : Token) (r : Walk) : Type 0 where
  is : u ≡ word_then n r
  named : is_name n ≡ true
  may : is_word (codes "MUSTJOIN") n ≡ false
  new : is_among names n.bytes ≡ false

new_name_is : (names : List (List ℕ)) (u : Walk) (n : Token) (r : Walk) → net_name (is_among names) u ≡ Ok (n, r) → NewName names u n r
new_name_is names u n r e =
    chosen (is_word (codes "MUSTJOIN")) (refuse must_join) (new_name (is_among names)) u n r e (NewName names u n r)
    (λ i e. absurd (refused must_join u n r e))
    (λ i e. chosen is_name (choose (λ w. is_among names w.bytes) (refuse twice_named) any) (refuse bad_statement) u n r e (NewName names u n r)
    (λ j e. chosen (λ w. is_among names w.bytes) (refuse twice_named) any u n r e (NewName names u n r)
    (λ k e. absurd (refused twice_named u n r e))
    (λ k e. let is = any_is u n r e in record { is = is; named = ap (begins is_name) (sym is) ∙ j; may = ap (begins (is_word (codes "MUSTJOIN"))) (sym is) ∙ i; new = ap (begins (λ w. is_among names w.bytes)) (sym is) ∙ k }))
    (λ j e. absurd (refused bad_statement u n r e)))

pub net_read : (xs : List Net) (u : Walk) (s : Net) (r : Walk) → net xs u ≡ Ok (s, r) → NetRead xs u s r
unfolding net_new_within tail_end
net_read xs u s r e =
    let a = split (word (codes "-")) (λ d. net_name (is_among (map (λ k. k.name.bytes) xs)) >>= λ n. joints >>= λ js. net_tail >>= λ use'. word (codes ";") >>= λ end. give (record { name = n; start = d.start; end = end.end; usage = use'; joints = js })) u s r e in
    let b = split (net_name (is_among (map (λ k. k.name.bytes) xs))) (λ n. joints >>= λ js. net_tail >>= λ use'. word (codes ";") >>= λ end. give (record { name = n; start = a.first.start; end = end.end; usage = use'; joints = js })) a.middle s r a.then_is in
    let c = split (joints) (λ js. net_tail >>= λ use'. word (codes ";") >>= λ end. give (record { name = b.first; start = a.first.start; end = end.end; usage = use'; joints = js })) b.middle s r b.then_is in
    let d = split net_tail (λ use'. word (codes ";") >>= λ end. give (record { name = b.first; start = a.first.start; end = end.end; usage = use'; joints = c.first })) c.middle s r c.then_is in
    let f = split (word (codes ";")) (λ end. give (record { name = b.first; start = a.first.start; end = end.end; usage = d.first; joints = c.first })) d.middle s r d.then_is in
    let made : record { name = b.first; start = a.first.start; end = f.first.end; usage = d.first; joints = c.first } ≡ s = ap (λ k. k.0) (Ok_is f.then_is) in
    let left : f.middle ≡ r = ap (λ k. k.1) (Ok_is f.then_is) in
    let dash = next_is (is_word (codes "-")) u a.first a.middle a.first_is in
    let n = new_name_is (map (λ k. k.name.bytes) xs) a.middle b.first b.middle b.first_is in
    record {
      dash = a.first;
      u1 = a.middle;
      dash_is = dash.is;
      dashed = dash.passes;
      start = sym (ap (λ k. k.start) made);
      u2 = b.middle;
      name_is = subst (λ k. a.middle ≡ word_then k b.middle) (ap (λ k. k.name) made) n.is;
      named = ap is_name (sym (ap (λ k. k.name) made)) ∙ n.named;
      may = ap (is_word (codes "MUSTJOIN")) (sym (ap (λ k. k.name) made)) ∙ n.may;
      new = ap (λ k. is_among (map (λ k. k.name.bytes) xs) k.bytes) (sym (ap (λ k. k.name) made)) ∙ n.new;
      u3 = c.middle;
      joints_is = c.first_is ∙ ap (λ k. Ok (k, c.middle)) (ap (λ k. k.joints) made);
      last = f.first;
      tail_is =
          ap (λ k. then_read k (λ usage. word (codes ";") >>= λ end. give (usage, end))) d.first_is
          ∙ ap (λ k. then_read k (λ end. give (d.first, end))) f.first_is
          ∙ ap (λ k. Ok ((k, f.first), f.middle)) (ap (λ k. k.usage) made)
          ∙ ap (λ k. Ok ((s.usage, f.first), k)) left;
      end = sym (ap (λ k. k.end) made);
    }

-- ---- printed statements

-- bytes that are read as this net after nets of these names
pub record PrintedNet (names : List (List ℕ)) (n : NamedNet) (bytes : List ℕ) : Type 0 where
  pub words : List Token
  pub piece : IsPiece bytes words
  pub reads : (ys : List Net) → map (λ k. k.name.bytes) ys ≡ names → (fin : Walk) → (y : Net) × (net ys (words +++ fin) ≡ Ok (y, fin)) × (net_names y ≡ n)

pub mark_dash : IsWord (codes "-")
mark_dash = (refl, refl, refl, tt)

-- a statement of its parts
pub print_net : (names : List (List ℕ)) (n : List ℕ) (js : List NamedJoint) (usage : Option (List ℕ)) (bytes tail : List ℕ) →
    IsName n → is_word (codes "MUSTJOIN") (bare n) ≡ false → is_among names n ≡ false → PrintedAll js bytes → PrintedTail usage tail →
    PrintedNet names (record { name = n; usage = usage; joints = js }) (codes "-" ++ (spaced (n ∷ []) ++ (bytes ++ tail)))
unfolding net_new_within tail_end
print_net names n js usage bytes tail ok may new all end = record {
  words = bare (codes "-") ∷ bare n ∷ (all.words ++ end.words);
  piece =
      piece_join (codes "-") (spaced (n ∷ []) ++ (bytes ++ tail)) (bare (codes "-") ∷ []) (bare n ∷ (all.words ++ end.words)) (piece_word (codes "-") mark_dash) refl
      (piece_join (spaced (n ∷ [])) (bytes ++ tail) (bare n ∷ []) (all.words ++ end.words) (behind_blank n [] [] ok.0 tt piece_none) (closes_join bytes tail all.closes end.closes)
      (piece_join bytes tail all.words end.words all.piece end.closes end.piece));
  reads = found;
}
  where
    found : (ys : List Net) → map (λ k. k.name.bytes) ys ≡ names → (fin : Walk) → (y : Net) × (net ys (word_then (bare (codes "-")) (word_then (bare n) ((all.words ++ end.words) +++ fin))) ≡ Ok (y, fin)) × (net_names y ≡ record { name = n; usage = usage; joints = js })
    found ys same fin =
        let whole = join all.words end.words fin in
        let t = end.reads fin in
        let j = all.reads (suc (size (all.words +++ (end.words +++ fin)))) [] (end.words +++ fin) (end.stops fin) (omega arith) in
        let a = split net_tail (λ usage. word (codes ";") >>= λ end. give (usage, end)) (end.words +++ fin) t.0 fin t.1 in
        let b = split (word (codes ";")) (λ end. give (a.first, end)) a.middle t.0 fin a.then_is in
        let y : Net = record { name = bare n; start = 0; end = b.first.end; usage = a.first; joints = j.0 } in
        let left : b.middle ≡ fin = ap (λ k. k.1) (Ok_is b.then_is) in
        let use_is : a.first ≡ t.0.0 = ap (λ k. k.0.0) (Ok_is b.then_is) in
        let fresh : is_among (map (λ k. k.name.bytes) ys) n ≡ false = ap (λ k. is_among k n) same ∙ new in
        let named : net_name (is_among (map (λ k. k.name.bytes) ys)) (word_then (bare n) ((all.words ++ end.words) +++ fin)) ≡ Ok (bare n, (all.words ++ end.words) +++ fin) = rw (may, ok.1, fresh) refl in (
          y,
          ap (λ k. then_read k (λ n'. joints >>= λ js. net_tail >>= λ use'. word (codes ";") >>= λ e. give (record { name = n'; start = 0; end = e.end; usage = use'; joints = js }))) named
              ∙ ap (λ k. (joints >>= λ js. net_tail >>= λ use'. word (codes ";") >>= λ e. give (record { name = bare n; start = 0; end = e.end; usage = use'; joints = js })) k) whole
              ∙ ap (λ k. then_read k (λ js. net_tail >>= λ use'. word (codes ";") >>= λ e. give (record { name = bare n; start = 0; end = e.end; usage = use'; joints = js }))) j.1
              ∙ ap (λ k. then_read k (λ use'. word (codes ";") >>= λ e. give (record { name = bare n; start = 0; end = e.end; usage = use'; joints = j.0 }))) a.first_is
              ∙ ap (λ k. then_read k (λ e. give (record { name = bare n; start = 0; end = e.end; usage = a.first; joints = j.0 }))) b.first_is
              ∙ ap (λ k. Ok (y, k)) left,
          λ i. record { name = n; usage = (ap usage_name use_is ∙ t.2) i; joints = j.2 i },
        )

-- ---- a statement of the text, whether it has changed or not

stays_all : (o : Changes) (n : List ℕ) (js : List Joint) → list_all (λ j. o.stays n (joint_names j)) js ≡ true → filter (o.stays n) (map joint_names js) ≡ map joint_names js
stays_all o n [] e = refl
stays_all o n (j ∷ js) e = go (o.stays n (joint_names j)) e (stays_all o n js)
  where
    go : (b : Bool) → (b && list_all (λ j. o.stays n (joint_names j)) js) ≡ true → (list_all (λ j. o.stays n (joint_names j)) js ≡ true → filter (o.stays n) (map joint_names js) ≡ map joint_names js) →
        (if b then joint_names j ∷ filter (o.stays n) (map joint_names js) else filter (o.stays n) (map joint_names js)) ≡ joint_names j ∷ map joint_names js
    go true e rest = ap (λ k. joint_names j ∷ k) (rest e)
    go false e rest = absurd (true≢false (sym e))

nil_is : (js : List NamedJoint) → is_nil js ≡ true → js ≡ []
nil_is [] e = refl
nil_is (j ∷ js) e = absurd (true≢false (sym e))

-- two words that are the same keyword
pub keyword_same : (k : List ℕ) (a b : Token) → is_word k a ≡ true → is_word k b ≡ true → Same a b
keyword_same k a b x y =
    let p : a.quoted ≡ false = plain_word_is k a x in
    let q : b.quoted ≡ false = plain_word_is k b y in
    record { bytes = is k b y q ∙ sym (is k a x p); quoted = q ∙ sym p }
  where
    is : (k : List ℕ) (w : Token) → is_word k w ≡ true → w.quoted ≡ false → w.bytes ≡ k
    is k w e quiet = (bytes_eq-Decides w.bytes k).0 (sym (ap (λ b. not b && bytes_eq w.bytes k) quiet) ∙ e)

tail_ok_end : Makes (λ x. UseOk x.0) tail_end
unfolding tail_end
tail_ok_end = makes_then tail_ok (λ usage ok. makes_then (makes_keeps (keeps_word (codes ";"))) (λ e t. makes_give (λ x. UseOk x.0) ok))

pub ends_net : (xs : List Net) → Ends (λ s k. s.end ≡ k) (net xs)
ends_net xs u s r e =
    let n = net_read xs u s r e in
    let t = ends_tail n.u3 (s.usage, n.last) r n.tail_is in
    let js = keeps_joints n.u2 s.joints n.u3 n.joints_is in
    let front = n.dash ∷ s.name ∷ js.front in
    record {
      init = n.dash ∷ s.name ∷ (js.front ++ t.init);
      last = t.last;
      is = n.dash_is ∙ ap (word_then n.dash) (n.name_is ∙ ap (word_then s.name) (js.is ∙ ap (λ k. js.front +++ k) t.is ∙ sym (join js.front (t.init ++ t.last ∷ []) r) ∙ ap (λ k. k +++ r) (sym (append_assoc js.front t.init (t.last ∷ [])))));
      plain = t.plain;
      end = n.end ∙ t.end;
    }

-- the statement in the edited text
pub net_printed : (text : List ℕ) (o : Changes) (special : Bool) (xs : List Net) (q : ℕ) (u : Walk) (s : Net) (r : Walk) → AllJointsOk (o.added special s.name.bytes) → At text q u → net xs u ≡ Ok (s, r) →
    PrintedNet (map (λ k. k.name.bytes) xs) (issued_net o special (net_names s)) (net_text text o special s)
net_printed text o special xs q u s r ok at e = go (list_all (λ j. o.stays s.name.bytes (joint_names j)) s.joints) refl (is_nil (o.added special s.name.bytes)) refl
  where
    n : NetRead xs u s r
    n = net_read xs u s r e

    at1 : Behind text q (n.dash ∷ []) n.dash.end n.u1
    at1 = behind text q u [] n.dash n.u1 at n.dash_is (plain_word_is (codes "-") n.dash n.dashed)

    at2 : Behind text n.dash.end (s.name ∷ []) s.name.end n.u2
    at2 = behind text n.dash.end n.u1 [] s.name n.u2 at1.at n.name_is (plain_name s.name n.named)

    js : Joints text s.name.end [] s.joints n.u3
    js = joints_of text (suc (size n.u2)) s.name.end [] s.joints n.u2 n.u3 at2.at at2.closed n.joints_is

    at3 : At text (joints_end s.name.end s.joints) n.u3
    at3 = subst (λ k. At text (joints_end s.name.end k) n.u3) (sym js.is) js.at

    closed3 : Closes (drop (joints_end s.name.end s.joints) text)
    closed3 = subst (λ k. Closes (drop (joints_end s.name.end k) text)) (sym js.is) js.closed

    all : PrintedAll (filter (o.stays s.name.bytes) (map joint_names s.joints) ++ o.added special s.name.bytes) (flat_map (kept_text text (o.stays s.name.bytes)) s.joints ++ spaced (flat_map joint_words (o.added special s.name.bytes)))
    all = printed_kept text (o.stays s.name.bytes) s.joints (o.added special s.name.bytes) (spaced (flat_map joint_words (o.added special s.name.bytes))) (subst (λ k. AllStand text k) (sym js.is) js.stand) (printed_added (o.added special s.name.bytes) ok)

    tail_of : (b : Bool) → PrintedTail (usage_name s.usage) (tail_text text b s)
    tail_of true = subst (λ k. PrintedTail (usage_name s.usage) (slice_range text (joints_end s.name.end s.joints) k)) (sym n.end) (tail_stands text (joints_end s.name.end s.joints) n.u3 (s.usage, n.last) r at3 closed3 js.stops n.tail_is)
    tail_of false = tail_printed s.usage (tail_ok_end n.u3 (s.usage, n.last) r (at_good text (joints_end s.name.end s.joints) n.u3 at3) n.tail_is).0

    same : Same s.name (bare s.name.bytes)
    same = same_bare s.name (plain_name s.name n.named)

    changed : PrintedNet (map (λ k. k.name.bytes) xs) (issued_net o special (net_names s)) (changed_text text o special s)
    changed =
        subst (λ k. PrintedNet (map (λ k. k.name.bytes) xs) (issued_net o special (net_names s)) (codes "-" ++ (spaced (s.name.bytes ∷ []) ++ k)))
        (append_assoc (flat_map (kept_text text (o.stays s.name.bytes)) s.joints) (spaced (flat_map joint_words (o.added special s.name.bytes))) (tail_text text special s))
        (print_net (map (λ k. k.name.bytes) xs) s.name.bytes (filter (o.stays s.name.bytes) (map joint_names s.joints) ++ o.added special s.name.bytes) (usage_name s.usage)
        (flat_map (kept_text text (o.stays s.name.bytes)) s.joints ++ spaced (flat_map joint_words (o.added special s.name.bytes))) (tail_text text special s)
        (name_of s.name n.u1 n.u2 (at_good text n.dash.end n.u1 at1.at) n.name_is n.named)
        (tests_word (codes "MUSTJOIN") s.name (bare s.name.bytes) same ∙ n.may)
        n.new
        all (tail_of special))

    bf : Before text q n.dash.start (word_then n.dash n.u1)
    bf = before text q n.dash n.u1 (subst (λ k. At text q k) n.dash_is at)

    at_start : At text s.start u
    at_start = subst (λ k. At text k u) (sym n.start) (subst (λ k. At text n.dash.start k) (sym n.dash_is) bf.at)

    ed : Ended (λ k. s.end ≡ k) u r
    ed = ends_net xs u s r e

    bh : Behind text s.start (ed.init ++ ed.last ∷ []) ed.last.end r
    bh = behind text s.start u ed.init ed.last r at_start ed.is ed.plain

    whole : PrintedNet (map (λ k. k.name.bytes) xs) (net_names s) (slice_range text s.start s.end)
    whole = record {
      words = ed.init ++ ed.last ∷ [];
      piece = subst (λ k. IsPiece (slice_range text s.start k) (ed.init ++ ed.last ∷ [])) (sym ed.end) bh.piece;
      reads = λ ys names fin.
          let one = keeps_net {H = Always} xs ys names u s r e in
          let front : one.front ≡ ed.init ++ ed.last ∷ [] = cancel one.front (ed.init ++ ed.last ∷ []) r (sym one.is ∙ ed.is) in
          one.again (ed.init ++ ed.last ∷ []) fin (subst (λ k. SameAll k (ed.init ++ ed.last ∷ [])) (sym front) (all_same (ed.init ++ ed.last ∷ []))) tt;
    }

    go : (b : Bool) → list_all (λ j. o.stays s.name.bytes (joint_names j)) s.joints ≡ b → (c : Bool) → is_nil (o.added special s.name.bytes) ≡ c →
        PrintedNet (map (λ k. k.name.bytes) xs) (issued_net o special (net_names s)) (if b && c then slice_range text s.start s.end else changed_text text o special s)
    go true i true j =
        let joints_same : map joint_names s.joints ≡ filter (o.stays s.name.bytes) (map joint_names s.joints) ++ o.added special s.name.bytes =
        sym (stays_all o s.name.bytes s.joints i) ∙ sym (append-nil (filter (o.stays s.name.bytes) (map joint_names s.joints))) ∙ ap (λ k. filter (o.stays s.name.bytes) (map joint_names s.joints) ++ k) (sym (nil_is (o.added special s.name.bytes) j)) in
        subst (λ k. PrintedNet (map (λ k. k.name.bytes) xs) (record { name = s.name.bytes; usage = usage_name s.usage; joints = k }) (slice_range text s.start s.end)) joints_same whole
    go true i false j = changed
    go false i c j = changed

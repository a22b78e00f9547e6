-- Statements of nets in the edited text, one after another.
use Rattle.std.proofs.Common.{◌≡◌, ℕ, zero, suc, ◌+◌, ◌<◌, ◌≤◌, Bool, true, false, List, [], ◌∷◌, ◌++◌, length, map, drop, slice_range, Ok, None, refl, ap, sym, ◌∙◌, subst, arith, if◌then◌else◌, append_assoc, append-nil, codes}
use Rattle.std.proofs.lemmas.List.{length-append}
use Rattle.std.specs.List.{flat_map}
use Rattle.eco_text.specs.Words.{Token, Walk, finished, word_then, between, walk, ◌+++◌}
use Rattle.eco_def.specs.Parsing.{then_read, begins, many_for, size}
use Rattle.eco_text.specs.Tokens.{is_word}
use Rattle.eco_common.specs.NameBytes.{is_among}
use Rattle.eco_def.specs.Design.{Net}
use Rattle.eco_def.specs.Named.{NamedNet, net_names}
use Rattle.eco_def.specs.Grammar.{net}
use Rattle.eco_issued_laws.specs.Printing.{spaced}
use Rattle.eco_issued_laws.specs.Changes.{Changes, Fresh}
use Rattle.eco_issued_laws.specs.Issued.{Edit, edited, joint_words, net_text, net_edit, issued_net, fresh_net, fresh_text}
use Rattle.eco_text.proofs.Stepping.{Closes}
use Rattle.eco_issued_laws.proofs.Allowed.{bare, IsName, AllJointsOk, FreshOk}
use Rattle.eco_issued_laws.proofs.Keeping.{SameAll, SameNext, Always, cancel, size_join}
use Rattle.eco_issued_laws.proofs.Repeating.{Beside, beside_map}
use Rattle.eco_issued_laws.proofs.Rules.{keeps_net}
use Rattle.eco_issued_laws.proofs.Pieces.{IsPiece}
use Rattle.eco_issued_laws.proofs.Editing.{At, Ahead, Behind, behind, Before, before, closes_edited}
use Rattle.eco_issued_laws.proofs.Ending.{Ended}
use Rattle.eco_issued_laws.proofs.Along.{now, Issues}
use Rattle.eco_issued_laws.proofs.Joints.{printed_added, spaced_join}
use Rattle.eco_issued_laws.proofs.Nets.{NetRead, net_read, PrintedNet, print_net, tail_printed, net_printed, ends_net, keyword_same}

-- a printed net reads so whatever words say the same, and whatever follows
pub record NetAgain (n : NamedNet) (ys : List Net) (u s : Walk) : Type 0 where
  pub net_is : Net
  pub reads : net ys u ≡ Ok (net_is, s)
  pub names : net_names net_is ≡ n

pub net_again : (names : List (List ℕ)) (n : NamedNet) (bytes : List ℕ) (p : PrintedNet names n bytes) (ys : List Net) → map (λ k. k.name.bytes) ys ≡ names → (ss : List Token) (s : Walk) → SameAll p.words ss → NetAgain n ys (ss +++ s) s
net_again names n bytes p ys same ss s all =
    let one = p.reads ys same (finished 0) in
    let kept = keeps_net {H = Always} ys ys refl (p.words +++ finished 0) one.0 (finished 0) one.1 in
    let front : p.words ≡ kept.front = cancel p.words kept.front (finished 0) kept.is in
    let two = kept.again ss s (subst (λ k. SameAll k ss) front all) tt in
    record { net_is = two.0; reads = two.1; names = two.2 ∙ one.2 }

pub net_shrinks : (ys : List Net) (u : Walk) (y : Net) (r : Walk) → net ys u ≡ Ok (y, r) → suc (size r) ≤ size u
net_shrinks ys u y r e = let one = keeps_net {H = Always} ys ys refl u y r e in omega (arith, one.taken, ap size one.is, size_join one.front r)

module _ (text : List ℕ) (o : Changes) (special : Bool) (ok : (n : List ℕ) → AllJointsOk (o.added special n)) where
  abbrev pub Issued : Net → Net → Type 0
  Issued s y = net_names y ≡ issued_net o special (net_names s)

  abbrev pub changes : Net → List Edit
  changes s = net_edit text o special s ∷ []

  pub net_issues : (xs : List Net) → Issues text Issued changes (λ ys. Beside Issued xs ys) (net xs) net
  net_issues xs q u s r at e = record {
    place = s.end;
    at = at_end;
    closed = closed_end;
    later = omega (arith, bf.later, n.start, bh.later, ed.end);
    ahead = λ c es a. (subst (λ k. q < k) (sym n.start) (bf.beyond c), omega (arith, n.start, bf.inside));
    first = first_of;
    reads = reads_of;
  }
    where
      n : NetRead xs u s r
      n = net_read xs u s r e

      bf : Before text q n.dash.start (word_then n.dash n.u1)
      bf = before text q n.dash n.u1 (subst (λ k. At text q k) n.dash_is at)

      at_start : At text s.start u
      at_start = subst (λ k. At text k u) (sym n.start) (subst (λ k. At text n.dash.start k) (sym n.dash_is) bf.at)

      ed : Ended (λ k. s.end ≡ k) u r
      ed = ends_net xs u s r e

      bh : Behind text s.start (ed.init ++ ed.last ∷ []) ed.last.end r
      bh = behind text s.start u ed.init ed.last r at_start ed.is ed.plain

      at_end : At text s.end r
      at_end = subst (λ k. At text k r) (sym ed.end) bh.at

      closed_end : Closes (drop s.end text)
      closed_end = subst (λ k. Closes (drop k text)) (sym ed.end) bh.closed

      p : PrintedNet (map (λ k. k.name.bytes) xs) (issued_net o special (net_names s)) (net_text text o special s)
      p = net_printed text o special xs q u s r (ok s.name.bytes) at e

      shown : (i : ℕ) (es : List Edit) → Ahead text s.end es → (ss : List Token) × (k : ℕ) × SameAll p.words ss × (now text i q (net_edit text o special s ∷ es) ≡ ss +++ now text k s.end es)
      shown i es a =
          let g = bf.again i (net_text text o special s ++ edited text s.end es) in
          let y = p.piece g.0 (edited text s.end es) (closes_edited text s.end es closed_end at_end.within a) in
          (y.0, g.0 + length (net_text text o special s), y.1, ap (λ k. walk between i (slice_range text q k ++ (net_text text o special s ++ edited text s.end es))) n.start ∙ g.1 ∙ y.2)

      first_of : (i : ℕ) (es : List Edit) → Ahead text s.end es → SameNext u (now text i q (net_edit text o special s ∷ es))
      first_of i es a =
          let y = shown i es a in
          let m = net_again (map (λ k. k.name.bytes) xs) (issued_net o special (net_names s)) (net_text text o special s) p xs refl y.0 (now text y.1 s.end es) y.2 in
          let nn = net_read xs (y.0 +++ now text y.1 s.end es) m.net_is (now text y.1 s.end es) m.reads in
          subst (λ k. SameNext k (now text i q (net_edit text o special s ∷ es))) (sym n.dash_is) (subst (λ k. SameNext (word_then n.dash n.u1) k) (sym (y.3 ∙ nn.dash_is)) (keyword_same (codes "-") n.dash nn.dash n.dashed nn.dashed))

      reads_of : (ys : List Net) → Beside Issued xs ys → (i : ℕ) (es : List Edit) → Ahead text s.end es → (y : Net) × (k : ℕ) × (net ys (now text i q (net_edit text o special s ∷ es)) ≡ Ok (y, now text k s.end es)) × (net_names y ≡ issued_net o special (net_names s))
      reads_of ys b i es a =
          let y = shown i es a in
          let m = net_again (map (λ k. k.name.bytes) xs) (issued_net o special (net_names s)) (net_text text o special s) p ys (beside_map (λ k. k.name.bytes) (λ k. k.name.bytes) (λ x y v. ap (λ k. k.name) v) xs ys b) y.0 (now text y.1 s.end es) y.2 in
          (m.net_is, y.1, ap (net ys) y.3 ∙ m.reads, m.names)

-- ---- new nets

-- whatever follows
abbrev pub IsLine : List ℕ → List Token → Type 0
IsLine bytes ts = (p : ℕ) (z : List ℕ) → (ss : List Token) × SameAll ts ss × (walk between p (bytes ++ z) ≡ ss +++ walk between (p + length bytes) z)

piece_line : (bytes : List ℕ) (ts : List Token) → IsPiece bytes ts → IsLine (bytes ++ 10 ∷ []) ts
piece_line bytes ts piece p z =
    let y = piece p (10 ∷ z) refl in
    let at : p + length bytes + 1 ≡ p + length (bytes ++ 10 ∷ []) = omega (arith, length-append bytes (10 ∷ [])) in
    (y.0, y.1, ap (λ k. walk between p k) (append_assoc bytes (10 ∷ []) z) ∙ y.2 ∙ ap (λ k. y.0 +++ walk between k z) at)

fresh_printed : (names : List (List ℕ)) (f : Fresh) → IsName f.name → is_word (codes "MUSTJOIN") (bare f.name) ≡ false → is_among names f.name ≡ false → AllJointsOk f.joints →
    PrintedNet names (fresh_net f) (codes "-" ++ (spaced (f.name ∷ []) ++ (spaced (flat_map joint_words f.joints) ++ spaced (codes ";" ∷ []))))
fresh_printed names f ok may new joints = print_net names f.name f.joints None (spaced (flat_map joint_words f.joints)) (spaced (codes ";" ∷ [])) ok may new (printed_added f.joints joints) (tail_printed None tt)

fresh_bytes : (f : Fresh) → fresh_text f ≡ (codes "-" ++ (spaced (f.name ∷ []) ++ (spaced (flat_map joint_words f.joints) ++ spaced (codes ";" ∷ [])))) ++ 10 ∷ []
fresh_bytes f = ap (λ k. codes "-" ++ (k ++ 10 ∷ [])) (spaced_join (f.name ∷ []) (flat_map joint_words f.joints ++ codes ";" ∷ []) ∙ ap (λ k. spaced (f.name ∷ []) ++ k) (spaced_join (flat_map joint_words f.joints) (codes ";" ∷ [])))

names_push : (ys : List Net) (y : Net) (f : Fresh) → net_names y ≡ fresh_net f → map (λ k. k.name.bytes) (ys ++ y ∷ []) ≡ map (λ k. k.name.bytes) ys ++ f.name ∷ []
names_push [] y f e = ap (λ k. k.name ∷ []) e
names_push (x ∷ ys) y f e = ap (λ k. x.name.bytes ∷ k) (names_push ys y f e)

nets_push : (ys : List Net) (y : Net) → map net_names (ys ++ y ∷ []) ≡ map net_names ys ++ net_names y ∷ []
nets_push [] y = refl
nets_push (x ∷ ys) y = ap (λ k. net_names x ∷ k) (nets_push ys y)

pub fresh_reads : (fs : List Fresh) (names : List (List ℕ)) → FreshOk names fs → (m p : ℕ) (ys : List Net) (z : List ℕ) → map (λ k. k.name.bytes) ys ≡ names → size (walk between p (flat_map fresh_text fs ++ z)) < m →
    (ws : List Net) × (j : ℕ) × (k : ℕ) × (many_for m (is_word (codes "-")) net ys (walk between p (flat_map fresh_text fs ++ z)) ≡ many_for j (is_word (codes "-")) net ws (walk between k z)) × (size (walk between k z) < j) × (map net_names ws ≡ map net_names ys ++ map fresh_net fs)
fresh_reads [] names ok m p ys z same lt = (ys, m, p, refl, lt, sym (append-nil (map net_names ys)))
fresh_reads (f ∷ fs) names ok zero p ys z same lt = absurd (omega (arith, lt))
fresh_reads (f ∷ fs) names ok (suc m) p ys z same lt =
    let printed = fresh_printed names f ok.0 ok.1 ok.2 ok.3 in
    let bytes = codes "-" ++ (spaced (f.name ∷ []) ++ (spaced (flat_map joint_words f.joints) ++ spaced (codes ";" ∷ []))) in
    let y = piece_line bytes printed.words printed.piece p (flat_map fresh_text fs ++ z) in
    let k = p + length (bytes ++ 10 ∷ []) in
    let next = walk between k (flat_map fresh_text fs ++ z) in
    let whole : walk between p (flat_map fresh_text (f ∷ fs) ++ z) ≡ y.0 +++ next =
    ap (λ l. walk between p l) (append_assoc (fresh_text f) (flat_map fresh_text fs) z) ∙ ap (λ l. walk between p (l ++ (flat_map fresh_text fs ++ z))) (fresh_bytes f) ∙ y.2 in
    let n = net_again names (fresh_net f) bytes printed ys same y.0 next y.1 in
    let less : size next < m = omega (arith, lt, ap size whole, net_shrinks ys (y.0 +++ next) n.net_is next n.reads) in
    let rest = fresh_reads fs (names ++ f.name ∷ []) ok.4 m k (ys ++ n.net_is ∷ []) z (names_push ys n.net_is f n.names ∙ ap (λ l. l ++ f.name ∷ []) same) less in
    let dash = net_read ys (y.0 +++ next) n.net_is next n.reads in
    let on : begins (is_word (codes "-")) (y.0 +++ next) ≡ true = ap (begins (is_word (codes "-"))) dash.dash_is ∙ dash.dashed in (
      rest.0,
      rest.1,
      rest.2,
      ap (λ l. many_for (suc m) (is_word (codes "-")) net ys l) whole
          ∙ ap (λ c. if c then then_read (net ys (y.0 +++ next)) (λ x. many_for m (is_word (codes "-")) net (ys ++ x ∷ [])) else Ok (ys, y.0 +++ next)) on
          ∙ ap (λ l. then_read l (λ x. many_for m (is_word (codes "-")) net (ys ++ x ∷ []))) n.reads
          ∙ rest.3,
      rest.4,
      rest.5 ∙ ap (λ l. l ++ map fresh_net fs) (nets_push ys n.net_is) ∙ append_assoc (map net_names ys) (net_names n.net_is ∷ []) (map fresh_net fs) ∙ ap (λ l. map net_names ys ++ l ∷ map fresh_net fs) n.names,
    )

-- Each rule of the grammar reads again what it has read.
use Rattle.std.proofs.Common.{◌≡◌, ℕ, ◌≤◌, Bool, true, false, not, List, [], ◌∷◌, map, Ok, refl, ap, sym, ◌∙◌, subst, arith, Option, Some, None, is_some, if◌then◌else◌, codes}
use Rattle.std.specs.Option.{option_map}
use Rattle.eco_text.specs.Words.{Token, Walk, finished, open_quote, word_then, ◌+++◌}
use Rattle.eco_text.specs.Numbers.{integer_of}
use Rattle.eco_def.specs.Parsing.{Parser, give, choose, word, name, new_name, bytes_ahead, valued, valued_as, many_until}
use Rattle.eco_text.specs.Tokens.{is_word, is_name, is_one_of}
use Rattle.eco_common.specs.NameBytes.{is_among}
use Rattle.eco_common.specs.Options.{first_some}
use Rattle.eco_def.specs.Design.{Comp, TopPin, Joint, Net}
use Rattle.eco_def.specs.Named.{comp_names, pin_names, joint_names, net_names}
use Rattle.eco_def.specs.Grammar.{place, some_place, comp_clause, comp_place, comp_new_within, comp_new, comp, orient_of, PinClause, OnNet, Directed, Used, Other, dir_of, pin_net, pin_dir, pin_use, pin_clause, pin_clauses, net_in, dir_in, supply_in, pin_on, pin_named, top_pin_new_within, top_pin_new, top_pin, joint_end, joint, joints, some_use, net_clause_new, net_clause, net_tail, net_name, net_new_within, net_new, net}
use Rattle.eco_issued_laws.proofs.Faults.{bad_statement, twice_named, must_join}
use Rattle.eco_issued_laws.proofs.Keeping.{Same, SameNext, Reread, Keeps, Tests, keeps_any, keeps_refuse, keeps_give, keeps_then, keeps_as, keeps_choose, keeps_next}
use Rattle.eco_issued_laws.proofs.Repeating.{Beside, beside_map, keeps_many}

-- ---- tests

pub tests_by : (f : List ℕ → Bool → Bool) → Tests (λ w. f w.bytes w.quoted) (λ w. f w.bytes w.quoted)
tests_by f t s same = rw (same.bytes, same.quoted) refl

pub tests_word : (keyword : List ℕ) → Tests (is_word keyword) (is_word keyword)
tests_word keyword t s same = rw (same.bytes, same.quoted) refl

pub tests_one_of : (keywords : List (List ℕ)) → Tests (is_one_of keywords) (is_one_of keywords)
tests_one_of [] t s same = refl
tests_one_of (k ∷ ks) t s same = let first : is_word k s ≡ is_word k t = tests_word k t s same in let rest : is_one_of ks s ≡ is_one_of ks t = tests_one_of ks t s same in cc

pub tests_name : Tests is_name is_name
tests_name t s same = rw (same.bytes, same.quoted) refl

pub tests_not : {f g : Token → Bool} → Tests f g → Tests (λ w. not (f w)) (λ w. not (g w))
tests_not test t s same = ap not (test t s same)

pub tests_known : (known again : List ℕ → Bool) → again ≡ known → Tests (λ w. known w.bytes) (λ w. again w.bytes)
tests_known known again e t s same = rw (same.bytes, e) refl

-- ---- words

pub keeps_word : {H : Walk → Walk → Type 0} (keyword : List ℕ) → Keeps 1 Same H (word keyword) (word keyword)
keeps_word keyword = keeps_next (tests_word keyword)

pub keeps_name : {H : Walk → Walk → Type 0} → Keeps 1 Same H name name
keeps_name = keeps_next tests_name

pub keeps_new_name : {H : Walk → Walk → Type 0} (known again : List ℕ → Bool) → again ≡ known → Keeps 1 Same H (new_name known) (new_name again)
keeps_new_name known again e = keeps_choose tests_name (keeps_choose (tests_known known again e) (keeps_refuse twice_named) keeps_any) (keeps_refuse bad_statement)

-- lists of values whose names are the same know the same names
pub among_same : {A B : Type 0} (V : A → B → Type 0) (f : A → List ℕ) (g : B → List ℕ) → ((x : A) (y : B) → V x y → g y ≡ f x) → (xs : List A) (ys : List B) → Beside V xs ys → is_among (map g ys) ≡ is_among (map f xs)
among_same V f g e xs ys b = ap is_among (beside_map f g e xs ys b)

pub keeps_fewer : {A B : Type 0} {n : ℕ} {V : A → B → Type 0} {H : Walk → Walk → Type 0} {p : Parser A} {q : Parser B} (m : ℕ) → m ≤ n → Keeps n V H p q → Keeps m V H p q
keeps_fewer m le keeps u x r e =
    let one = keeps u x r e in
    record { front = one.front; is = one.is; taken = omega (arith, le, one.taken); ahead = one.ahead; again = one.again }

pub beside_same : {A : Type 0} (xs ys : List A) → Beside (λ x y. y ≡ x) xs ys → ys ≡ xs
beside_same [] [] b = refl
beside_same [] (y ∷ ys) b = absurd b
beside_same (x ∷ xs) [] b = absurd b
beside_same (x ∷ xs) (y ∷ ys) b = let first : y ≡ x = b.0 in let rest : ys ≡ xs = beside_same xs ys b.1 in cc

pub keeps_valued : {A : Type 0} {H : Walk → Walk → Type 0} (f : List ℕ → Option A) → Keeps 1 (λ x y. y ≡ x) H (valued f) (valued f)
keeps_valued {A} {H} f u x r e = go (f (bytes_ahead u)) refl e
  where
    ahead_same : (t s : Walk) → SameNext t s → bytes_ahead s ≡ bytes_ahead t
    ahead_same (word_then w u) (word_then v s) h = h.bytes
    ahead_same (word_then w u) (finished q) h = absurd h
    ahead_same (word_then w u) (open_quote q) h = absurd h
    ahead_same (finished p) (finished q) h = refl
    ahead_same (finished p) (open_quote q) h = absurd h
    ahead_same (finished p) (word_then v s) h = absurd h
    ahead_same (open_quote p) (open_quote q) h = refl
    ahead_same (open_quote p) (finished q) h = absurd h
    ahead_same (open_quote p) (word_then v s) h = absurd h

    go : (o : Option A) → f (bytes_ahead u) ≡ o → valued_as o u ≡ Ok (x, r) → Reread 1 (λ x y. y ≡ x) H (valued f) u x r
    go None is e = keeps_refuse bad_statement u x r e
    go (Some v) is e =
        let one = keeps_as {V = Same} {W = λ x y. y ≡ x} {H = H} (λ w. v) (λ w. v) keeps_any (λ w w' sw. refl) u x r e in
        record {
          front = one.front;
          is = one.is;
          taken = one.taken;
          ahead = one.ahead;
          again = λ fs s all h.
              let y = one.again fs s all h in
              (y.0, ap (λ o. valued_as o (fs +++ s)) (ap f (ahead_same u (fs +++ s) (one.ahead fs s all h)) ∙ is) ∙ y.1, y.2);
        }

pub keeps_many_until : {A B : Type 0} (V : A → B → Type 0) {f : Token → Bool} (item : List A → Parser A) (again : List B → Parser B) → Tests f f →
    ((xs : List A) (ys : List B) → Beside V xs ys → Keeps 1 V SameNext (item xs) (again ys)) → Keeps 0 (Beside V) SameNext (many_until f item) (many_until f again)
keeps_many_until V item again test each = keeps_many V item again (tests_not test) each

-- ---- components

pub keeps_place : {H : Walk → Walk → Type 0} → Keeps 5 (λ x y. y ≡ x) H place place
unfolding place
keeps_place =
    keeps_then (keeps_word (codes "(")) (λ o o' so. keeps_then (keeps_valued integer_of) (λ x x' sx. keeps_then (keeps_valued integer_of) (λ y y' sy.
    keeps_then (keeps_word (codes ")")) (λ c c' sc. keeps_as _ _ (keeps_valued orient_of) (λ d d' sd. λ i. record { point = record { x = sx i; y = sy i }; orient = sd i })))))

keeps_some_place : {H : Walk → Walk → Type 0} → Keeps 6 (λ x y. y ≡ x) H some_place some_place
unfolding some_place
keeps_some_place = keeps_then keeps_any (λ k k' sk. keeps_as _ _ keeps_place (λ p p' sp. ap Some sp))

keeps_comp_clause : Keeps 1 (λ x y. y ≡ x) SameNext comp_clause comp_clause
unfolding comp_clause
keeps_comp_clause =
    keeps_choose (tests_word (codes "+"))
    (keeps_then keeps_any (λ p p' sp. keeps_choose (tests_one_of (codes "PLACED" ∷ codes "FIXED" ∷ codes "COVER" ∷ [])) (keeps_fewer 0 (omega arith) keeps_some_place) (keeps_give refl)))
    (keeps_as _ _ keeps_any (λ o o' so. refl))

pub keeps_comp_place : Keeps 0 (λ x y. y ≡ x) SameNext comp_place comp_place
unfolding comp_place
keeps_comp_place =
    keeps_as _ _ (keeps_many_until (λ x y. y ≡ x) (λ before. comp_clause) (λ before. comp_clause) (tests_word (codes ";")) (λ xs ys b. keeps_comp_clause)) (λ cs cs' scs. ap first_some (beside_same cs cs' scs))

keeps_comp_new : (known again : List ℕ → Bool) → again ≡ known → Keeps 4 (λ x y. comp_names y ≡ comp_names x) SameNext (comp_new known) (comp_new again)
unfolding comp_new_within
keeps_comp_new known again same =
    keeps_then (keeps_word (codes "-")) (λ d d' sd.
    keeps_then (keeps_new_name known again same) (λ n n' sn.
    keeps_then keeps_name (λ m m' sm.
    keeps_then keeps_comp_place (λ p p' sp.
    keeps_as _ _ (keeps_word (codes ";")) (λ e e' se. λ i. record { name = sn.bytes i; model = sm.bytes i; place = sp i })))))

pub keeps_comp : (xs ys : List Comp) → Beside (λ x y. comp_names y ≡ comp_names x) xs ys → Keeps 4 (λ x y. comp_names y ≡ comp_names x) SameNext (comp xs) (comp ys)
keeps_comp xs ys b = keeps_comp_new _ _ (among_same (λ x y. comp_names y ≡ comp_names x) (λ c. c.name.bytes) (λ c. c.name.bytes) (λ x y v. ap (λ k. k.name) v) xs ys b)

-- ---- top pins

-- clauses that say the same
abbrev pub SameClause : PinClause → PinClause → Type 0
SameClause (OnNet w) (OnNet v) = Same w v
SameClause (Directed d) (Directed e) = e ≡ d
SameClause (Used b) (Used c) = c ≡ b
SameClause Other Other = Unit {0}
SameClause _ _ = ⊥

keeps_pin_net : {H : Walk → Walk → Type 0} → Keeps 2 SameClause H pin_net pin_net
unfolding pin_net
keeps_pin_net = keeps_then keeps_any (λ k k' sk. keeps_as _ _ keeps_name (λ n n' sn. sn))

keeps_pin_dir : {H : Walk → Walk → Type 0} → Keeps 2 SameClause H pin_dir pin_dir
unfolding pin_dir
keeps_pin_dir = keeps_then keeps_any (λ k k' sk. keeps_as _ _ (keeps_valued dir_of) (λ d d' sd. sd))

keeps_pin_use : Keeps 1 SameClause SameNext pin_use pin_use
unfolding pin_use
keeps_pin_use = keeps_then keeps_any (λ k k' sk. keeps_choose (tests_one_of (codes "POWER" ∷ codes "GROUND" ∷ [])) (keeps_fewer 0 (omega arith) (keeps_as _ _ keeps_any (λ w w' sw. refl))) (keeps_give {x = Used false} refl))

keeps_pin_clause : Keeps 1 SameClause SameNext pin_clause pin_clause
unfolding pin_clause
keeps_pin_clause =
    keeps_choose (tests_word (codes "+"))
    (keeps_then keeps_any (λ p p' sp.
    keeps_choose (tests_word (codes "NET")) (keeps_fewer 0 (omega arith) keeps_pin_net)
    (keeps_choose (tests_word (codes "DIRECTION")) (keeps_fewer 0 (omega arith) keeps_pin_dir)
    (keeps_choose (tests_word (codes "USE")) (keeps_fewer 0 (omega arith) keeps_pin_use)
    (keeps_give {x = Other} {y = Other} tt)))))
    (keeps_as _ _ keeps_any (λ o o' so. tt))

pub keeps_pin_clauses : Keeps 0 (Beside SameClause) SameNext pin_clauses pin_clauses
unfolding pin_clauses
keeps_pin_clauses =
    keeps_choose (tests_one_of (codes "+" ∷ codes ";" ∷ []))
    (keeps_many_until SameClause (λ before. pin_clause) (λ before. pin_clause) (tests_word (codes ";")) (λ xs ys b. keeps_pin_clause))
    (keeps_refuse bad_statement)

-- what clauses that say the same give
same_dir : (cs ds : List PinClause) → Beside SameClause cs ds → dir_in ds ≡ dir_in cs
same_dir [] [] b = refl
same_dir [] (y ∷ ys) b = absurd b
same_dir (x ∷ xs) [] b = absurd b
same_dir (OnNet n ∷ xs) (OnNet m ∷ ys) b = same_dir xs ys b.1
same_dir (OnNet n ∷ xs) (Directed m ∷ ys) b = absurd b.0
same_dir (OnNet n ∷ xs) (Used m ∷ ys) b = absurd b.0
same_dir (OnNet n ∷ xs) (Other ∷ ys) b = absurd b.0
same_dir (Directed n ∷ xs) (OnNet m ∷ ys) b = absurd b.0
same_dir (Directed n ∷ xs) (Directed m ∷ ys) b = b.0
same_dir (Directed n ∷ xs) (Used m ∷ ys) b = absurd b.0
same_dir (Directed n ∷ xs) (Other ∷ ys) b = absurd b.0
same_dir (Used n ∷ xs) (OnNet m ∷ ys) b = absurd b.0
same_dir (Used n ∷ xs) (Directed m ∷ ys) b = absurd b.0
same_dir (Used n ∷ xs) (Used m ∷ ys) b = same_dir xs ys b.1
same_dir (Used n ∷ xs) (Other ∷ ys) b = absurd b.0
same_dir (Other ∷ xs) (OnNet m ∷ ys) b = absurd b.0
same_dir (Other ∷ xs) (Directed m ∷ ys) b = absurd b.0
same_dir (Other ∷ xs) (Used m ∷ ys) b = absurd b.0
same_dir (Other ∷ xs) (Other ∷ ys) b = same_dir xs ys b.1

same_supply : (cs ds : List PinClause) → Beside SameClause cs ds → supply_in ds ≡ supply_in cs
same_supply [] [] b = refl
same_supply [] (y ∷ ys) b = absurd b
same_supply (x ∷ xs) [] b = absurd b
same_supply (OnNet n ∷ xs) (OnNet m ∷ ys) b = same_supply xs ys b.1
same_supply (OnNet n ∷ xs) (Directed m ∷ ys) b = absurd b.0
same_supply (OnNet n ∷ xs) (Used m ∷ ys) b = absurd b.0
same_supply (OnNet n ∷ xs) (Other ∷ ys) b = absurd b.0
same_supply (Directed n ∷ xs) (OnNet m ∷ ys) b = absurd b.0
same_supply (Directed n ∷ xs) (Directed m ∷ ys) b = same_supply xs ys b.1
same_supply (Directed n ∷ xs) (Used m ∷ ys) b = absurd b.0
same_supply (Directed n ∷ xs) (Other ∷ ys) b = absurd b.0
same_supply (Used n ∷ xs) (OnNet m ∷ ys) b = absurd b.0
same_supply (Used n ∷ xs) (Directed m ∷ ys) b = absurd b.0
same_supply (Used n ∷ xs) (Used m ∷ ys) b = b.0
same_supply (Used n ∷ xs) (Other ∷ ys) b = absurd b.0
same_supply (Other ∷ xs) (OnNet m ∷ ys) b = absurd b.0
same_supply (Other ∷ xs) (Directed m ∷ ys) b = absurd b.0
same_supply (Other ∷ xs) (Used m ∷ ys) b = absurd b.0
same_supply (Other ∷ xs) (Other ∷ ys) b = same_supply xs ys b.1

same_net : (cs ds : List PinClause) → Beside SameClause cs ds → option_map (λ w. w.bytes) (net_in ds) ≡ option_map (λ w. w.bytes) (net_in cs)
same_net [] [] b = refl
same_net [] (y ∷ ys) b = absurd b
same_net (x ∷ xs) [] b = absurd b
same_net (OnNet n ∷ xs) (OnNet m ∷ ys) b = ap Some b.0.bytes
same_net (OnNet n ∷ xs) (Directed m ∷ ys) b = absurd b.0
same_net (OnNet n ∷ xs) (Used m ∷ ys) b = absurd b.0
same_net (OnNet n ∷ xs) (Other ∷ ys) b = absurd b.0
same_net (Directed n ∷ xs) (OnNet m ∷ ys) b = absurd b.0
same_net (Directed n ∷ xs) (Directed m ∷ ys) b = same_net xs ys b.1
same_net (Directed n ∷ xs) (Used m ∷ ys) b = absurd b.0
same_net (Directed n ∷ xs) (Other ∷ ys) b = absurd b.0
same_net (Used n ∷ xs) (OnNet m ∷ ys) b = absurd b.0
same_net (Used n ∷ xs) (Directed m ∷ ys) b = absurd b.0
same_net (Used n ∷ xs) (Used m ∷ ys) b = same_net xs ys b.1
same_net (Used n ∷ xs) (Other ∷ ys) b = absurd b.0
same_net (Other ∷ xs) (OnNet m ∷ ys) b = absurd b.0
same_net (Other ∷ xs) (Directed m ∷ ys) b = absurd b.0
same_net (Other ∷ xs) (Used m ∷ ys) b = absurd b.0
same_net (Other ∷ xs) (Other ∷ ys) b = same_net xs ys b.1

not_Some : {A : Type 0} {x : A} → None ≡ Some x → ⊥
not_Some e = cc

keeps_pin_on : (n n' : Token) (cs ds : List PinClause) → Same n n' → Beside SameClause cs ds → (o o' : Option Token) → option_map (λ w. w.bytes) o' ≡ option_map (λ w. w.bytes) o →
    Keeps 0 (λ x y. pin_names y ≡ pin_names x) SameNext (pin_on n cs o) (pin_on n' ds o')
keeps_pin_on n n' cs ds sn b None o' e = keeps_refuse bad_statement
keeps_pin_on n n' cs ds sn b (Some w) None e = absurd (not_Some e)
keeps_pin_on n n' cs ds sn b (Some w) (Some v) e =
    let same : v.bytes ≡ w.bytes = cc in
    keeps_give {x = record { name = n; net = w; dir = dir_in cs; supply = supply_in cs }} {y = record { name = n'; net = v; dir = dir_in ds; supply = supply_in ds }}
    (λ i. record { name = sn.bytes i; net = same i; dir = same_dir cs ds b i; supply = same_supply cs ds b i })

keeps_top_pin_new : (known again : List ℕ → Bool) → again ≡ known → Keeps 3 (λ x y. pin_names y ≡ pin_names x) SameNext (top_pin_new known) (top_pin_new again)
unfolding top_pin_new_within pin_named
keeps_top_pin_new known again same =
    keeps_then (keeps_word (codes "-")) (λ d d' sd.
    keeps_then (keeps_new_name known again same) (λ n n' sn.
    keeps_then (keeps_then keeps_pin_clauses (λ cs cs' scs. keeps_pin_on n n' cs cs' sn scs (net_in cs) (net_in cs') (same_net cs cs' scs))) (λ p p' sp.
    keeps_as _ _ (keeps_word (codes ";")) (λ e e' se. sp))))

pub keeps_top_pin : (xs ys : List TopPin) → Beside (λ x y. pin_names y ≡ pin_names x) xs ys → Keeps 3 (λ x y. pin_names y ≡ pin_names x) SameNext (top_pin xs) (top_pin ys)
keeps_top_pin xs ys b = keeps_top_pin_new _ _ (among_same (λ x y. pin_names y ≡ pin_names x) (λ c. c.name.bytes) (λ c. c.name.bytes) (λ x y v. ap (λ k. k.name) v) xs ys b)

-- ---- nets

pub keeps_joint_end : {H : Walk → Walk → Type 0} → Keeps 1 Same H joint_end joint_end
unfolding joint_end
keeps_joint_end =
    keeps_choose (tests_word (codes "+"))
    (keeps_fewer 1 (omega arith) (keeps_then (keeps_word (codes "+")) (λ p p' sp. keeps_then (keeps_word (codes "SYNTHESIZED")) (λ m m' sm. keeps_word (codes ")")))))
    (keeps_word (codes ")"))

pub keeps_joint : {H : Walk → Walk → Type 0} → Keeps 4 (λ x y. joint_names y ≡ joint_names x) H joint joint
unfolding joint
keeps_joint =
    keeps_then (keeps_word (codes "(")) (λ o o' so.
    keeps_then keeps_name (λ c c' sc.
    keeps_then keeps_name (λ p p' sp.
    keeps_as _ _ keeps_joint_end (λ e e' se. λ i. record { comp = sc.bytes i; pin = sp.bytes i }))))

-- a use, or none, beside another
abbrev pub SameUse : Option Token → Option Token → Type 0
SameUse None None = Unit {0}
SameUse None (Some v) = ⊥
SameUse (Some w) None = ⊥
SameUse (Some w) (Some v) = Same w v

pub use_names : (o p : Option Token) → SameUse o p → option_map (λ w. w.bytes) p ≡ option_map (λ w. w.bytes) o
use_names None None s = refl
use_names None (Some v) s = absurd s
use_names (Some w) None s = absurd s
use_names (Some w) (Some v) s = ap Some s.bytes

same_first : (xs ys : List (Option Token)) → Beside SameUse xs ys → SameUse (first_some xs) (first_some ys)
same_first [] [] b = tt
same_first [] (y ∷ ys) b = absurd b
same_first (x ∷ xs) [] b = absurd b
same_first (None ∷ xs) (None ∷ ys) b = same_first xs ys b.1
same_first (None ∷ xs) (Some v ∷ ys) b = absurd b.0
same_first (Some w ∷ xs) (None ∷ ys) b = absurd b.0
same_first (Some w ∷ xs) (Some v ∷ ys) b = b.0

same_is_some : (o p : Option Token) → SameUse o p → is_some p ≡ is_some o
same_is_some None None s = refl
same_is_some None (Some v) s = absurd s
same_is_some (Some w) None s = absurd s
same_is_some (Some w) (Some v) s = refl

keeps_some_use : {H : Walk → Walk → Type 0} → Keeps 2 SameUse H some_use some_use
unfolding some_use
keeps_some_use = keeps_then keeps_any (λ k k' sk. keeps_as _ _ keeps_name (λ n n' sn. sn))

keeps_net_clause_new : (used again : Bool) → again ≡ used → Keeps 1 SameUse SameNext (net_clause_new used) (net_clause_new again)
unfolding net_clause_new
keeps_net_clause_new used again same =
    keeps_choose (tests_word (codes "+"))
    (keeps_then keeps_any (λ p p' sp. subst (λ k. Keeps 0 SameUse SameNext (behind_plus used) (behind_plus k)) (sym same) (kept used)))
    (keeps_as _ _ keeps_any (λ o o' so. tt))
  where
    behind_plus : Bool → Parser (Option Token)
    behind_plus b = if b then give None else choose (is_word (codes "USE")) some_use (give None)

    kept : (b : Bool) → Keeps 0 SameUse SameNext (if b then give None else choose (is_word (codes "USE")) some_use (give None)) (if b then give None else choose (is_word (codes "USE")) some_use (give None))
    kept true = keeps_give {x = None} {y = None} tt
    kept false = keeps_choose (tests_word (codes "USE")) (keeps_fewer 0 (omega arith) keeps_some_use) (keeps_give {x = None} {y = None} tt)

pub keeps_net_clause : (xs ys : List (Option Token)) → Beside SameUse xs ys → Keeps 1 SameUse SameNext (net_clause xs) (net_clause ys)
keeps_net_clause xs ys b = keeps_net_clause_new _ _ (same_is_some (first_some xs) (first_some ys) (same_first xs ys b))

pub keeps_net_tail : Keeps 0 SameUse SameNext net_tail net_tail
unfolding net_tail
keeps_net_tail =
    keeps_choose (tests_one_of (codes "+" ∷ codes ";" ∷ []))
    (keeps_as _ _ (keeps_many_until SameUse net_clause net_clause (tests_word (codes ";")) keeps_net_clause) (λ cs cs' scs. same_first cs cs' scs))
    (keeps_refuse bad_statement)

pub keeps_net_name : {H : Walk → Walk → Type 0} (known again : List ℕ → Bool) → again ≡ known → Keeps 1 Same H (net_name known) (net_name again)
keeps_net_name known again e = keeps_choose (tests_word (codes "MUSTJOIN")) (keeps_refuse must_join) (keeps_new_name known again e)

pub keeps_joints : Keeps 0 (Beside (λ x y. joint_names y ≡ joint_names x)) SameNext joints joints
keeps_joints = keeps_many (λ x y. joint_names y ≡ joint_names x) (λ before. joint) (λ before. joint) (tests_word (codes "(")) (λ xs ys b. keeps_fewer 1 (omega arith) keeps_joint)

pub joints_named : (xs ys : List Joint) → Beside (λ x y. joint_names y ≡ joint_names x) xs ys → map joint_names ys ≡ map joint_names xs
joints_named xs ys b = beside_map joint_names joint_names (λ x y v. v) xs ys b

pub keeps_net_new : {H : Walk → Walk → Type 0} (known again : List ℕ → Bool) → again ≡ known → Keeps 3 (λ x y. net_names y ≡ net_names x) H (net_new known) (net_new again)
unfolding net_new_within
keeps_net_new known again same =
    keeps_then (keeps_word (codes "-")) (λ d d' sd.
    keeps_then (keeps_net_name known again same) (λ n n' sn.
    keeps_then keeps_joints (λ js js' sjs.
    keeps_then keeps_net_tail (λ u u' su.
    keeps_as _ _ (keeps_word (codes ";")) (λ e e' se. λ i. record { name = sn.bytes i; usage = use_names u u' su i; joints = joints_named js js' sjs i })))))

pub keeps_net : {H : Walk → Walk → Type 0} (xs ys : List Net) → map (λ s. s.name.bytes) ys ≡ map (λ s. s.name.bytes) xs → Keeps 3 (λ x y. net_names y ≡ net_names x) H (net xs) (net ys)
keeps_net xs ys b = keeps_net_new _ _ (ap is_among b)

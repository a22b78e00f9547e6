-- Parts of a document, one after another.
use Rattle.std.proofs.Common.{◌≡◌, ℕ, Bool, ◌&&◌, nat_le, ◌+◌, List, [], ◌∷◌, ◌++◌, length, Result, Ok, Err, refl, ap, ◌∙◌, sym, append_assoc, String, Global, add-one}
use Rattle.toml.specs.View.{view, members_view}
use Rattle.toml.specs.declared.value.Value.{Value}
use Rattle.eco_func.specs.declared.fault.FuncFault.{FuncFault}
use Rattle.eco_func.specs.declared.fault.FuncFault.TheVariants.{BadToml, BadField, TooManyInputs, BadTable, BadExpression, UnknownInput, TooManyMasters, Memory}
use Rattle.eco_func.specs.FunctionsFile.{◌>>=◌, and_more, member_count, no_key_among, may_be_outputs, GivesValue, Blames}

-- ---- faults

pub blamed : {A B : Type 0} (view : B → A) (said : Result A FuncFault) (f e : FuncFault) → said ≡ Err f → Blames f e → GivesValue view said (Err e)
blamed view said f BadToml is b = is ∙ ap Err (sym b)
blamed view said f (BadField m x) is b = is ∙ ap Err (sym b)
blamed view said f (TooManyInputs m) is b = is ∙ ap Err (sym b)
blamed view said f (BadTable m o) is b = is ∙ ap Err (sym b)
blamed view said f (BadExpression m o p) is b = is ∙ ap Err (sym b)
blamed view said f (UnknownInput m o i) is b = is ∙ ap Err (sym b)
blamed view said f (TooManyMasters n) is b = is ∙ ap Err (sym b)
blamed view said f Memory is b = tt

-- a fault in a first part is one of the whole
pub passed : {A B C D : Type 0} (view : B → A) (view' : D → C) (said : Result A FuncFault) (whole : Result C FuncFault) (e : FuncFault) → ((f : FuncFault) → said ≡ Err f → whole ≡ Err f) → GivesValue view said (Err e) → GivesValue view' whole (Err e)
passed view view' said whole BadToml go g = go BadToml g
passed view view' said whole (BadField m x) go g = go (BadField m x) g
passed view view' said whole (TooManyInputs m) go g = go (TooManyInputs m) g
passed view view' said whole (BadTable m o) go g = go (BadTable m o) g
passed view view' said whole (BadExpression m o p) go g = go (BadExpression m o p) g
passed view view' said whole (UnknownInput m o i) go g = go (UnknownInput m o i) g
passed view view' said whole (TooManyMasters n) go g = go (TooManyMasters n) g
passed view view' said whole Memory go g = tt

-- ---- parts of a reading without a fault

pub same_ok : {A : Type 0} (a b : A) → (◌≡◌ {A = Result A FuncFault} (Ok a) (Ok b)) → a ≡ b
same_ok a b h = cc

pub bound : {A B : Type 0} (x : Result A FuncFault) (f : A → Result B FuncFault) (b : B) → (x >>= f) ≡ Ok b → (a : A) × (x ≡ Ok a) × (f a ≡ Ok b)
bound (Ok a) f b h = (a, refl, h)
bound (Err e) f b h = absurd (cc)

-- ---- lists

-- values after those that are done
abbrev pub behind : {A : Type 0} → List A → Result (List A) FuncFault → Result (List A) FuncFault
behind done rest = rest >>= (λ more. Ok (done ++ more))

-- one more value goes from the front of what is left to the end of what is done
pub pushed : {A : Type 0} (done : List A) (x : A) (rest : Result (List A) FuncFault) → behind done (and_more x rest) ≡ behind (done ++ x ∷ []) rest
pushed done x (Ok xs) = ap Ok (sym (append_assoc done (x ∷ []) xs))
pushed done x (Err e) = refl

pub step : {A B : Type 0} (done : List B) (x : Result A FuncFault) (f : A → B) (rest : Result (List B) FuncFault) (a : A) → x ≡ Ok a → behind done (x >>= (λ t. and_more (f t) rest)) ≡ behind (done ++ f a ∷ []) rest
step done x f rest a e = ap (λ x. behind done (x >>= (λ t. and_more (f t) rest))) e ∙ pushed done (f a) rest

pub stopped : {A B : Type 0} (done : List B) (x : Result A FuncFault) (f : A → B) (rest : Result (List B) FuncFault) (e : FuncFault) → x ≡ Err e → behind done (x >>= (λ t. and_more (f t) rest)) ≡ Err e
stopped done x f rest e is = ap (λ x. behind done (x >>= (λ t. and_more (f t) rest))) is

pub member_count-view : (es : List (String Global × Value)) → member_count (members_view es) ≡ length es
member_count-view [] = refl
member_count-view (e ∷ es) = ap (λ n. n + 1) (member_count-view es) ∙ add-one (length es)

-- one to eight pins, none of them an input
pub pinned_by : (inputs : List (List ℕ)) (es : List (String Global × Value)) (n : ℕ) → n ≡ length es → (few : Bool) → few ≡ (nat_le 1 n && nat_le n 8) → (few && no_key_among inputs (members_view es)) ≡ may_be_outputs inputs (members_view es)
pinned_by inputs es n count few is =
    let none = no_key_among inputs (members_view es) in
    ap (λ f. f && none) is ∙ ap (λ k. nat_le 1 k && nat_le k 8 && none) (count ∙ sym (member_count-view es))

use Rattle.std.proofs.Common.{◌≡◌, ◌∙◌, ◌-◌, List, ℕ, ◌++◌, take, drop, replicate, take-append-drop, sym, ap}
use Rattle.std.specs.Str.{bytes_eq}
use Rattle.std.specs.Cmp.Lexicographic.{bytes_decides}
use Rattle.std.proofs.lemmas.Bool.Decides.{same_from_decides, Decides-like}
use Rattle.eco_net.proofs.short_name.ShortNamePartialEq.eq.Goals as goal

-- lists of one end are equal where their beginnings are
same_begun : (n : ℕ) (a b : List ℕ) → drop n a ≡ drop n b → bytes_eq a b ≡ bytes_eq (take n a) (take n b)
same_begun n a b end =
    let whole : take n a ≡ take n b → a ≡ b = λ begun. sym (take-append-drop n a) ∙ ap (λ s. s ++ drop n a) begun ∙ ap (λ t. take n b ++ t) end ∙ take-append-drop n b in
    same_from_decides (bytes_eq a b) (bytes_eq (take n a) (take n b)) (bytes_decides a b) (Decides-like (bytes_eq (take n a) (take n b)) whole (ap (take n)) (bytes_decides (take n a) (take n b)))

pub returns-then-self-other : goal.returns-then-self-other
returns-then-self-other c =
    let s = c.self.inside in
    let o = c.other.inside in
    let same : s.len ≡ o.len = c.if-self-other.true in
    let end : drop s.len s.bytes ≡ drop s.len o.bytes = c.self.invariant.1 ∙ ap (λ n. replicate (15 - n) 0) same ∙ sym c.other.invariant.1 ∙ ap (λ n. drop n o.bytes) (sym same) in
    c.eq.ensures
    ∙ same_begun s.len s.bytes o.bytes end
    ∙ ap (bytes_eq (take s.len s.bytes)) (ap (λ n. take n o.bytes) same ∙ c.other.view_is)
    ∙ ap (λ a. bytes_eq a c.args.other.now) c.self.view_is

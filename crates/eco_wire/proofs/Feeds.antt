-- Line feeds of heads.
use Rattle.std.proofs.Common.{◌≡◌, ℕ, ◌+◌, ◌≤◌, ◌==◌, List, [], ◌∷◌, ◌++◌, length, append-nil, refl, ap, ◌∙◌, arith}
use Rattle.std.specs.Prelude.{count_by, flat_map}
use Rattle.std.proofs.lemmas.List.Sums.{sum_by-append}
use Rattle.httparse.specs.Ascii.{line_feed}
use Rattle.httparse.specs.Grammar.{LineEnd, crlf, lf, print_end, Field, print_field, print_section, print_blank, print_version, RequestHead, print_request}
use Rattle.httparse.specs.Spans.{RequestExceeds}

abbrev pub feeds : List ℕ → ℕ
feeds bytes = count_by (λ b. b == line_feed) bytes

pub feeds-append : (xs ys : List ℕ) → feeds (xs ++ ys) ≡ feeds xs + feeds ys
feeds-append xs ys = sum_by-append _ xs ys

feeds_of_end : (e : LineEnd) → 1 ≤ feeds (print_end e)
feeds_of_end crlf = omega arith
feeds_of_end lf = omega arith

feeds_of_field : (f : Field) → 1 ≤ feeds (print_field f)
feeds_of_field f =
    let whole = feeds-append (f.name ++ 58 ∷ f.raw) (print_end f.end) in
    let last = feeds_of_end f.end in
    omega arith

-- each header line has one
feeds_of_fields : (fs : List Field) → length fs ≤ feeds (flat_map print_field fs)
feeds_of_fields [] = omega arith
feeds_of_fields (f ∷ fs) =
    let rest = feeds_of_fields fs in
    let here = feeds_of_field f in
    let both = feeds-append (print_field f) (flat_map print_field fs) in
    omega arith

feeds_of_request : (h : RequestHead) → length h.fields + 1 ≤ feeds (print_request h)
unfolding print_request
feeds_of_request h =
    let section = feeds-append (flat_map print_field h.fields) (print_end h.last) in
    let before = print_blank h.blank ++ h.method ++ 32 ∷ h.target ++ 32 ∷ print_version h.minor ++ print_end h.line_end in
    let whole : feeds (print_request h) ≡ feeds before + feeds (print_section h.fields h.last) =
    feeds-append before (print_section h.fields h.last) in
    let lines = feeds_of_fields h.fields in
    let last = feeds_of_end h.last in
    omega arith

-- bytes with more header lines than fit have more line feeds
pub feeds_of_exceeds : (room : ℕ) (bytes : List ℕ) → RequestExceeds room bytes → room + 1 ≤ feeds bytes
feeds_of_exceeds room bytes (front, rest, cut, h, reads, more) =
    let head = feeds_of_request h in
    let same : feeds (front ++ print_end lf) ≡ feeds (print_request h) = ap feeds (reads.1 ∙ append-nil _) in
    let front_end = feeds-append front (print_end lf) in
    let one : feeds (print_end lf) ≡ 1 = refl in
    let all : feeds bytes ≡ feeds front + feeds rest = ap feeds cut ∙ feeds-append front rest in
    omega arith

-- The next request of a link (RFC 9112, section 2).
use Rattle.std.specs.Prelude.{◌≡◌, ℕ, ◌+◌, ◌<◌, ◌≤◌, ◌==◌, ◌⊎◌, List, length, take, drop, count_by, ⊤}
use Rattle.httparse.specs.Ascii.{line_feed}
use Rattle.httparse.specs.Grammar.{RequestHead, print_request, ReadsRequest, HasNoRequest, NeverHasRequest, MayBecomeRequest}
use Rattle.httparse.specs.Spans.{RequestOverflows}
use Rattle.eco_wire.specs.Heads.{Reading, unfinished, whole, broken, head_of, answer_to}
use Rattle.eco_wire.specs.declared.limits.TheConstants.{HEAD_BYTES, HEAD_LINES}
use Rattle.eco_wire.specs.declared.request.Span.{Span}
use Rattle.eco_wire.specs.declared.request.Next.{Next}
use Rattle.eco_wire.specs.declared.request.Next.TheVariants.{NeedMore, Request, Broken}

-- the bytes begin with the head h, which keeps the limits of a head, and then come those after it
pub record BeginsWith (bytes : List ℕ) (h : RequestHead) (rest : List ℕ) : Type 0 where
  pub reads : ReadsRequest bytes h rest
  pub size : length (print_request h) ≤ HEAD_BYTES
  pub lines : length h.fields ≤ HEAD_LINES

-- the bytes begin with no such head
abbrev pub HasNoHead : List ℕ → Type 0
HasNoHead bytes = (h : RequestHead) (rest : List ℕ) → ¬ (BeginsWith bytes h rest)

-- more line feeds stand than a head has header lines, and whatever bytes follow, a head at the front has too many header lines
pub record HasTooManyLines (bytes : List ℕ) : Type 0 where
  pub feeds : HEAD_LINES < count_by (λ b. b == line_feed) bytes
  pub overflows : RequestOverflows HEAD_LINES bytes

-- why a head is given up: with 400, no bytes can follow that make one; with 431, it has too many lines or bytes
abbrev pub GivesUp : List ℕ → ℕ → Type 0
GivesUp bytes status =
    ((status ≡ 400) × NeverHasRequest bytes)
    ⊎ ((status ≡ 431) × (HasTooManyLines bytes ⊎ (HEAD_BYTES ≤ length bytes)))

-- the answer to bytes that begin with no whole head
abbrev pub Headless : List ℕ → Reading → Type 0
Headless bytes unfinished = (length bytes < HEAD_BYTES) × HasNoRequest bytes × MayBecomeRequest bytes
Headless bytes (whole m) = ⊥
Headless bytes (broken status) = GivesUp bytes status

-- the next request of bytes: the answer to the whole head that they begin with, and else as above
abbrev pub IsNext : List ℕ → Reading → Type 0
IsNext bytes reading =
    ((h : RequestHead) × (rest : List ℕ) × BeginsWith bytes h rest × (reading ≡ answer_to (head_of h) rest))
    ⊎ (HasNoHead bytes × Headless bytes reading)

-- the bytes of a span
abbrev pub part : List ℕ → Span → List ℕ
part bytes s = take s.len (drop s.start bytes)

-- what an answer of spans says of the bytes
abbrev pub reading_of : List ℕ → Next → Reading
reading_of bytes NeedMore = unfinished
reading_of bytes (Request r) = whole (record {
  method = r.method;
  target = part bytes r.path;
  body = part bytes r.body;
  close = r.close;
  used = r.used;
})
reading_of bytes (Broken status) = broken status

-- the target lies in the head, and the body directly after the head, within the first n bytes
abbrev pub ArePlaced : ℕ → Next → Type 0
ArePlaced n NeedMore = ⊤
ArePlaced n (Request r) =
    (r.path.start + r.path.len ≤ r.body.start) × (r.body.start + r.body.len ≡ r.used) × (r.used ≤ n)
ArePlaced n (Broken status) = ⊤

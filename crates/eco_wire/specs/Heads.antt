-- A request's head, and the answer to a whole one (RFC 9112, sections 3, 6 and 9).
use Rattle.std.specs.Prelude.{ℕ, ◌+◌, ◌≤◌, Bool, true, false, ◌||◌, ◌==◌, nat_lt, List, length, map, take, All, codes, bytes_eq, if◌then◌else◌}
use Rattle.httparse.specs.Grammar.{RequestHead, print_request}
use Rattle.httparse.specs.Spans.{span_bytes, header_bytes, name_and_value, IsWithin, IsHeaderWithin}
use Rattle.httparse.specs.declared.spans.HeaderSpan.{HeaderSpan}
use Rattle.httparse.specs.declared.spans.RequestSpans.{RequestSpans}
use Rattle.eco_wire.specs.Lines.{Line, has_line, values_of, content_length_of, asks_to_close}
use Rattle.eco_wire.specs.declared.limits.TheConstants.{BODY_BYTES}
use Rattle.eco_wire.specs.declared.fields.ContentLength.{ContentLength}
use Rattle.eco_wire.specs.declared.fields.ContentLength.TheVariants.{Missing, Bytes, Unreadable}
use Rattle.eco_wire.specs.declared.request.Method.{Method}
use Rattle.eco_wire.specs.declared.request.Method.TheVariants.{Get, Post, Other}

-- a request as its bytes say it; `used` is the bytes of head and body together
pub record Message : Type 0 where
  pub method : Method
  pub target : List ℕ
  pub body : List ℕ
  pub close : Bool
  pub used : ℕ

-- what the front of a link's bytes is: not whole yet, a request, or refused with a status
pub data Reading : Type 0 where
  unfinished : Reading
  whole : Message → Reading
  broken : ℕ → Reading

-- what is looked at of a head, and its length
pub record Head : Type 0 where
  pub method : List ℕ
  pub target : List ℕ
  pub minor : ℕ
  pub lines : List Line
  pub size : ℕ

-- the method of this name, byte by byte (RFC 9110, section 9.1)
abbrev pub method_of : List ℕ → Method
method_of name = if bytes_eq name (codes "GET") then Get else if bytes_eq name (codes "POST") then Post else Other

-- a body must be announced (RFC 9112, section 6.3)
abbrev pub is_post : Method → Bool
is_post Get = false
is_post Post = true
is_post Other = false

-- what is looked at of a head of the grammar
abbrev pub head_of : RequestHead → Head
head_of h = record {
  method = h.method;
  target = h.target;
  minor = h.minor;
  lines = map name_and_value h.fields;
  size = length (print_request h);
}

-- version 1.0, or a Connection line that says so, ends the link (RFC 9112, sections 9.3 and 9.6)
abbrev pub closes : Head → Bool
closes h = h.minor == 0 || asks_to_close h.lines

-- a body of n bytes: as many as a body may have, and all of them after the head (RFC 9112, section 6.3)
abbrev pub with_body : Head → ℕ → List ℕ → Reading
with_body h n rest =
    if nat_lt BODY_BYTES n then broken 413
    else if nat_lt (length rest) n then unfinished
    else whole (record {
      method = method_of h.method;
      target = h.target;
      body = take n rest;
      close = closes h;
      used = h.size + n;
    })

-- the body's length: one Content-Length that can be read (RFC 9110, section 8.6), which a POST must have
abbrev pub with_length : Head → ContentLength → List ℕ → Reading
with_length h Unreadable rest = broken 400
with_length h Missing rest = if is_post (method_of h.method) then broken 411 else with_body h 0 rest
with_length h (Bytes n) rest = with_body h n rest

-- the answer to a whole head with these bytes after it: transfer codings aren't read (RFC 9112, section 6.1)
abbrev pub answer_to : Head → List ℕ → Reading
answer_to h rest =
    if has_line (codes "transfer-encoding") h.lines then broken 501
    else with_length h (content_length_of (values_of (codes "content-length") h.lines)) rest

-- the head that spans of the bytes show
abbrev pub head_at : List ℕ → RequestSpans → List HeaderSpan → Head
head_at bytes r fields = record {
  method = span_bytes bytes r.method;
  target = span_bytes bytes r.path;
  minor = r.version;
  lines = map (header_bytes bytes) fields;
  size = r.len;
}

-- the spans lie in the head, and the head in the bytes
pub record Fits (bytes : List ℕ) (r : RequestSpans) (fields : List HeaderSpan) : Type 0 where
  pub size : r.len ≤ length bytes
  pub method : IsWithin r.len r.method
  pub path : IsWithin r.len r.path
  pub lines : All (IsHeaderWithin (length bytes)) fields

-- What an answer to the front of a link's bytes says.
use Rattle.std.proofs.Common.{◌≡◌, ℕ, ◌+◌, ◌≤◌, ◌<◌, inl, inr, Bool, true, false, List, length, refl, ap, ◌∙◌, arith, length-append, None, nat_lt, ltb-true}
use Rattle.std.specs.Prelude.{codes, IsSome, IsTrue, ⊤}
use Rattle.std.proofs.lemmas.Bool.{ltb-false}
use Rattle.httparse.specs.Grammar.{print_request}
use Rattle.eco_wire.specs.Heads.{Head, Reading, unfinished, whole, broken, with_body, with_length, head_of}
use Rattle.eco_wire.specs.Lines.{content_length_of, values_of}
use Rattle.eco_wire.specs.Requests.{IsNext, Headless}
use Rattle.eco_wire.specs.Bounds.{UnfinishedIsShort, RefusalsHaveHeads}
use Rattle.eco_wire.specs.Replies.{phrase_of, fits_allow}
use Rattle.eco_wire.specs.declared.fields.ContentLength.{ContentLength}
use Rattle.eco_wire.specs.declared.fields.ContentLength.TheVariants.{Missing, Bytes, Unreadable}
use Rattle.eco_wire.proofs.Streaming.{body_at, missing_at, coded_at}

-- an unfinished request has fewer bytes than a head and a body may have, and a refusal a status with a phrase
abbrev pub Tells : ℕ → Reading → Type 0
Tells n unfinished = n < 147456
Tells n (whole m) = ⊤
Tells n (broken status) = IsSome (phrase_of status) × IsTrue (fits_allow status None)

tells_body : (h : Head) (n : ℕ) (behind : List ℕ) (big short : Bool) → nat_lt 131072 n ≡ big → nat_lt (length behind) n ≡ short
    → h.size ≤ 16384 → Tells (h.size + length behind) (body_at h n behind big short)
tells_body h n behind true short large few size = (refl, refl)
tells_body h n behind false true large few size =
    let most : n ≤ 131072 = ltb-false _ _ large in
    let less : length behind < n = ltb-true _ _ few in
    omega (arith, most, less, size)
tells_body h n behind false false large few size = tt

tells_with_body : (h : Head) (n : ℕ) (behind : List ℕ) → h.size ≤ 16384 → Tells (h.size + length behind) (with_body h n behind)
tells_with_body h n behind size = tells_body h n behind _ _ refl refl size

tells_missing : (h : Head) (post : Bool) (behind : List ℕ) → h.size ≤ 16384 → Tells (h.size + length behind) (missing_at h post behind)
tells_missing h true behind size = (refl, refl)
tells_missing h false behind size = tells_with_body h 0 behind size

tells_length : (h : Head) (stated : ContentLength) (behind : List ℕ) → h.size ≤ 16384
    → Tells (h.size + length behind) (with_length h stated behind)
tells_length h Unreadable behind size = (refl, refl)
tells_length h Missing behind size = tells_missing h _ behind size
tells_length h (Bytes n) behind size = tells_with_body h n behind size

tells_coded : (h : Head) (coded : Bool) (behind : List ℕ) → h.size ≤ 16384 → Tells (h.size + length behind) (coded_at h coded behind)
tells_coded h true behind size = (refl, refl)
tells_coded h false behind size = tells_length h (content_length_of (values_of (codes "content-length") h.lines)) behind size

tells_headless : (bytes : List ℕ) (reading : Reading) → Headless bytes reading → Tells (length bytes) reading
tells_headless bytes unfinished is = omega (arith, is.0)
tells_headless bytes (whole m) is = absurd is
tells_headless bytes (broken status) (inl (is, why)) = rw is (refl, refl)
tells_headless bytes (broken status) (inr (is, why)) = rw is (refl, refl)

pub next_tells : (bytes : List ℕ) (reading : Reading) → IsNext bytes reading → Tells (length bytes) reading
next_tells bytes reading (inl (h, behind, begins, is)) =
    let size : length bytes ≡ length (print_request h) + length behind =
    ap length begins.reads.1 ∙ length-append (print_request h) behind in
    rw (size, is) (tells_coded (head_of h) _ behind begins.size)
next_tells bytes reading (inr (none, is)) = tells_headless bytes reading is

pub unfinished_is_short : UnfinishedIsShort
unfinished_is_short bytes is = next_tells bytes unfinished is

pub refusals_have_heads : RefusalsHaveHeads
refusals_have_heads bytes status is = next_tells bytes (broken status) is

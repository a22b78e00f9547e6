-- A digest that goes on from a hasher is that of all the bytes.
use Rattle.std.proofs.Common.{◌≡◌, ℕ, zero, suc, ◌+◌, ◌-◌, ◌*◌, ◌/◌, ◌%◌, ◌^◌, List, ◌∷◌, ◌++◌, length, take, drop, replicate, sym, ap, ◌∙◌, arith, length-append, add-zero}
use Rattle.std.proofs.lemmas.List.{append_assoc, take-append-drop, length-take-le, drop-drop, drop_at}
use Rattle.std.specs.Int.{w64, to_be_bytes}
use Rattle.sha2.specs.declared.Sha256.{Sha256}
use Rattle.sha2.specs.Sha256.{sha256, padding, padded_message, hash_after, compress, digest_bytes, initial_hash_256}
use Rattle.sha2.specs.Hashers.{Holds256}
use Rattle.sha2.proofs.Absorbing256.{hash_after-append, hash_after_next, Holds_total, Holds-IsAbsorbed}
use Rattle.eco_base.specs.Digests.{framed, digest_of, last_blocks, digest_after}

-- ---- blocks after blocks

dropped : (front rest : List ℕ) (n k : ℕ) → length front ≡ n → drop (n + k) (front ++ rest) ≡ drop k rest
dropped front rest n k e = sym (drop-drop k n (front ++ rest)) ∙ ap (drop k) (drop_at front rest n e)

-- the hash value after some whole blocks, and after k more
after_blocks : (ini front rest : List ℕ) (n k : ℕ) → length front ≡ n * 64 → hash_after ini (front ++ rest) (n + k) ≡ hash_after (hash_after ini front n) rest k
unfolding hash_after
after_blocks ini front rest n zero e = ap (hash_after ini (front ++ rest)) (add-zero n) ∙ hash_after-append ini front rest n (omega (arith, e))
after_blocks ini front rest n (suc k) e =
    let more : hash_after ini (front ++ rest) (n + k) ≡ hash_after (hash_after ini front n) rest k = after_blocks ini front rest n k e in
    let here : drop ((n + k) * 64) (front ++ rest) ≡ drop (k * 64) rest = ap (λ m. drop m (front ++ rest)) (omega arith) ∙ dropped front rest (n * 64) (k * 64) e in
    let next : n + suc k ≡ (n + k) + 1 = omega arith in
    ap (hash_after ini (front ++ rest)) next ∙ hash_after_next ini (front ++ rest) (n + k) ∙ (λ i. compress (more i) (take 64 (here i)))

-- ---- the padding

-- the padding of lengths that are the same to 2 ^ 64
same_padding : (a b : ℕ) → a % 2 ^ 64 ≡ b % 2 ^ 64 → padding a ≡ padding b
same_padding a b e =
    let low : a % 64 ≡ b % 64 = omega (arith, e) in
    let bits : a * 8 % 2 ^ 64 ≡ b * 8 % 2 ^ 64 = omega (arith, e) in
    λ i. 0x80 ∷ replicate ((119 - low i) % 64) 0 ++ to_be_bytes w64 (bits i)

-- ---- the law

pub digest_goes_on : (s : Sha256) (m more : List ℕ) → Holds256 s m → digest_after s more ≡ sha256 (m ++ more)
unfolding digest_after sha256
digest_goes_on s m more held =
    let total = Holds_total initial_hash_256 s.core m held in
    let absorbed = Holds-IsAbsorbed initial_hash_256 s.core m held in
    let q : ℕ = length m / 64 in
    let front = take (q * 64) m in
    let long : length front ≡ q * 64 = length-take-le (q * 64) m (omega arith) in
    let at : s.core.total % 64 ≡ length m % 64 = omega (arith, total) in
    let left : take (s.core.total % 64) s.core.buffer ≡ drop (q * 64) m = ap (λ k. take k s.core.buffer) at ∙ absorbed.1 in
    let pad : padding (s.core.total + length more) ≡ padding (length (m ++ more)) =
    same_padding (s.core.total + length more) (length (m ++ more)) (omega (arith, total, length-append m more)) in
    let rest = last_blocks s more in
    let whole : front ++ rest ≡ padded_message (m ++ more) =
    (λ i. front ++ (left i ++ (more ++ pad i)))
    ∙ sym (append_assoc front (drop (q * 64) m) (more ++ padding (length (m ++ more))))
    ∙ ap (λ xs. xs ++ (more ++ padding (length (m ++ more)))) (take-append-drop (q * 64) m)
    ∙ sym (append_assoc m more (padding (length (m ++ more)))) in
    let blocks : length (padded_message (m ++ more)) / 64 ≡ q + length rest / 64 = omega (arith, ap length whole, length-append front rest, long) in
    let before : s.core.h ≡ hash_after initial_hash_256 front q =
    absorbed.0 ∙ ap (λ xs. hash_after initial_hash_256 xs q) (sym (take-append-drop (q * 64) m)) ∙ hash_after-append initial_hash_256 front (drop (q * 64) m) q (omega (arith, long)) in
    ap (λ h. digest_bytes h 8)
    (ap (λ h. hash_after h rest (length rest / 64)) before
    ∙ sym (after_blocks initial_hash_256 front rest q (length rest / 64) long)
    ∙ ap (hash_after initial_hash_256 (front ++ rest)) (sym blocks)
    ∙ ap (λ xs. hash_after initial_hash_256 xs (length (padded_message (m ++ more)) / 64)) whole)

-- the digest of four texts, from a hasher that holds the first
pub texts_go_on : (s : Sha256) (lef def functions desk : List ℕ) → Holds256 s (framed lef) → digest_after s (framed def ++ framed functions ++ framed desk) ≡ digest_of lef def functions desk
texts_go_on s lef def functions desk held =
    digest_goes_on s (framed lef) (framed def ++ framed functions ++ framed desk) held
    ∙ ap sha256 (sym (append_assoc (framed lef) (framed def ++ framed functions) (framed desk)) ∙ ap (λ xs. xs ++ framed desk) (sym (append_assoc (framed lef) (framed def) (framed functions))))

-- the same of a hasher that was fed three texts more
pub fed_digest : (s : Sha256) (m a b c d : List ℕ) → Holds256 s m → d ≡ sha256 (((m ++ a) ++ b) ++ c) → d ≡ digest_after s ((a ++ b) ++ c)
fed_digest s m a b c d held e =
    e
    ∙ ap sha256 (ap (λ xs. xs ++ c) (append_assoc m a b) ∙ append_assoc m (a ++ b) c)
    ∙ sym (digest_goes_on s m ((a ++ b) ++ c) held)

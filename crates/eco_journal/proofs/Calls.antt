-- What each change of the disk makes of a journal's form.
use Rattle.std.proofs.Common.{◌≡◌, ℕ, ◌+◌, List, [], ◌∷◌, ◌++◌, length, take, sym, ap, subst, ◌∙◌, arith, length-append}
use Rattle.eco_disk.specs.Disk.{Torn, Cut, written}
use Rattle.eco_journal.specs.Layout.{IsHead, IsPayload, ArePayloads, front, behind}
use Rattle.eco_journal.specs.Unfinished.{StoresOnly, StoresOr}
use Rattle.eco_journal.specs.Sound.{IsClosed, IsTornGate}
use Rattle.eco_journal.proofs.Steps.{torn_behind, torn_gate, cut_behind, cut_done, written_behind, written_gate}
use Rattle.eco_journal.proofs.Forms.{front-push}
use Rattle.eco_journal.proofs.Unfinished.{closed_only, gate_or}

module _ (start : List ℕ) (gate : ℕ) (gate_is : gate ≡ length start) where
  pub closed_step : (n : ℕ) (d x : List ℕ) → IsClosed start d → Torn (gate + 1) n d x → IsClosed start x
  closed_step n d x was torn =
      let torn_at = subst (λ g. Torn (g + 1) n d x) gate_is torn in
      let came = torn_behind start 0 n was.0 x (subst (λ b. Torn (length start + 1) n b x) was.1 torn_at) in
      (came.0, came.1)

  pub cut_step : (d x : List ℕ) → IsClosed start d → Cut (gate + 1) d x → IsClosed start x
  cut_step d x was cut =
      let cut_at = subst (λ g. Cut (g + 1) d x) gate_is cut in
      cut_behind start 0 was.0 x (subst (λ b. Cut (length start + 1) b x) was.1 cut_at)

  pub cut_end : (d x : List ℕ) → IsClosed start d → x ≡ take (gate + 1) d → x ≡ start ++ 0 ∷ []
  cut_end d x was is = is ∙ (λ i. take (gate_is i + 1) (was.1 i)) ∙ cut_done start 0 was.0

  pub staged : (piece d x : List ℕ) → d ≡ start ++ 0 ∷ [] → x ≡ written (gate + 1) piece d → x ≡ start ++ 0 ∷ piece
  staged piece d x was is = is ∙ (λ i. written (gate_is i + 1) piece (was i)) ∙ written_behind start 0 [] piece (omega arith)

  module _ (payload : List ℕ) where
    pub gate_step : (d x : List ℕ) → IsTornGate start payload d → Torn gate 1 d x → IsTornGate start payload x
    gate_step d x was torn =
        let torn_at = subst (λ g. Torn g 1 d x) gate_is torn in
        torn_gate start was.0 (behind payload) x (subst (λ b. Torn (length start) 1 b x) was.1 torn_at)

    pub gate_written : (byte : ℕ) (d x : List ℕ) → IsTornGate start payload d → x ≡ written gate (byte ∷ []) d → x ≡ start ++ byte ∷ behind payload
    gate_written byte d x was is = is ∙ (λ i. written (gate_is i) (byte ∷ []) (was.1 i)) ∙ written_gate start was.0 byte (behind payload)

pub settled_closed : (start x : List ℕ) → x ≡ start ++ 0 ∷ [] → IsClosed start x
settled_closed start x is = ([], is)

-- the entries of each form
module _ (digest head : List ℕ) (is : IsHead digest head) (payloads : List (List ℕ)) (are : ArePayloads payloads) where
  pub closed_stores : (x : List ℕ) → IsClosed (front head payloads) x → StoresOnly digest payloads x
  closed_stores x was = subst (StoresOnly digest payloads) (sym was.1) (closed_only digest head is payloads was.0 are)

  pub torn_stores : (payload : List ℕ) → IsPayload payload → (x : List ℕ) → IsTornGate (front head payloads) payload x → StoresOr digest payloads payload x
  torn_stores payload one x was = subst (StoresOr digest payloads payload) (sym was.1) (gate_or digest head is payloads payload was.0 are one)

-- where the gate comes to lie
pub gate-push : (digest head : List ℕ) → (is : IsHead digest head) → (payloads : List (List ℕ)) (payload : List ℕ) → length (front head (payloads ++ payload ∷ [])) ≡ length (front head payloads) + length (behind payload)
gate-push digest head is payloads payload =
    omega (arith, ap length (front-push digest head is payloads payload), length-append (front head payloads) (1 ∷ behind payload), length-append (front head (payloads ++ payload ∷ [])) (0 ∷ []))

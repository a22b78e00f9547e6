-- Spans and marks, and how a proof stores a list of spans.
use Rattle.std.specs.Prelude.{ℕ, ◌+◌, ◌≤◌, ◌⊎◌, nat_le, List, filter, refl}
use Rattle.std.specs.Coded.{Coded, code_by, coded×, coded_ℕ}
use Rattle.eco_bench.specs.declared.span.Span.{Span}
use Rattle.eco_bench.specs.declared.span.Mark.{Mark}

-- no word is in both
abbrev pub ShareNoWord : Span → Span → Type 0
ShareNoWord a b = (a.start + a.len ≤ b.start) ⊎ (b.start + b.len ≤ a.start)

-- the span ends before the mark
abbrev pub EndsBefore : Mark → Span → Type 0
EndsBefore mark span = span.start + span.len ≤ mark.used

-- the spans that end before the mark
abbrev pub before : Mark → List Span → List Span
before mark spans = filter (λ (span : Span). nat_le (span.start + span.len) mark.used) spans

-- a span is stored as its two numbers
abbrev pub span_code : Coded Span
span_code = code_by (ℕ × ℕ) (coded× coded_ℕ coded_ℕ) (λ span. (span.start, span.len)) (λ pair. record { start = pair.0; len = pair.1 }) (λ _. refl)

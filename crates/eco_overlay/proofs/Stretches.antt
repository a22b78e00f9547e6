-- One stretch more.
use Rattle.std.proofs.Common.{◌≡◌, ℕ, ◌-◌, ◌≤◌, List, [], ◌∷◌, ◌++◌, length, take, drop, slice_range, ap, sym, ◌∙◌, arith, length-append, length-drop}
use Rattle.std.proofs.lemmas.List.{take-append-le, drop-append-le, drop_at, take_all}
use Rattle.eco_overlay.specs.declared.stretch.Stretch.{Stretch}
use Rattle.eco_issued_laws.specs.Issued.{Edit}
use Rattle.eco_overlay.specs.Overlays.{edits_of, Rises}

pub rises_room : (lo hi : ℕ) (ss : List Stretch) → Rises lo hi ss → lo ≤ hi
rises_room lo hi [] r = omega (arith, r)
rises_room lo hi (s ∷ ss) r = let more = rises_room s.upto hi ss r.1 in omega (arith, r.0, more)

-- bytes after don't change a slice
slice_before : (bytes more : List ℕ) (a b : ℕ) → a ≤ b → b ≤ length bytes → slice_range (bytes ++ more) a b ≡ slice_range bytes a b
slice_before bytes more a b le within =
    ap (take (b - a)) (drop-append-le a bytes more (omega (arith, le, within))) ∙ take-append-le (b - a) (drop a bytes) more (omega (arith, le, within, length-drop a bytes))

-- all that is after
slice_behind : (bytes more : List ℕ) (a b : ℕ) → a ≡ length bytes → b ≡ length (bytes ++ more) → slice_range (bytes ++ more) a b ≡ more
slice_behind bytes more a b from upto =
    ap (take (b - a)) (drop_at bytes more a (sym from)) ∙ take_all (b - a) more (omega (arith, from, upto, length-append bytes more))

pub push_stretch : (bytes more : List ℕ) (lo : ℕ) (ss : List Stretch) (s : Stretch) → Rises lo (length bytes) ss → s.upto ≡ length (bytes ++ more) →
    (edits_of (bytes ++ more) lo (ss ++ s ∷ []) ≡ edits_of bytes lo ss ++ record { start = s.start; end = s.end; bytes = more } ∷ []) × Rises lo (length (bytes ++ more)) (ss ++ s ∷ [])
push_stretch bytes more lo [] s r is = (
  ap (λ bs. let e : Edit = record { start = s.start; end = s.end; bytes = bs } in e ∷ []) (slice_behind bytes more lo s.upto r is),
  (omega (arith, r, is, length-append bytes more), is),
)
push_stretch bytes more lo (t ∷ ss) s r is =
    let p = push_stretch bytes more t.upto ss s r.1 is in
    let room = rises_room t.upto (length bytes) ss r.1 in (
      ap (λ bs. let e : Edit = record { start = t.start; end = t.end; bytes = bs } in e ∷ edits_of (bytes ++ more) t.upto (ss ++ s ∷ [])) (slice_before bytes more lo t.upto r.0 room)
          ∙ ap (λ es. let e : Edit = record { start = t.start; end = t.end; bytes = slice_range bytes lo t.upto } in e ∷ es) p.0,
      (r.0, p.1),
    )

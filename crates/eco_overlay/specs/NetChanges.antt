-- The code's changes, as the definitions have them.
use Rattle.std.specs.Prelude.{ℕ, Bool, true, not, ◌&&◌, ◌||◌, List, [], map, if◌then◌else◌, decimal, Vec, false, length, ◌∷◌, ◌≤◌, nat_lt}
use Rattle.std.specs.Global.{Global}
use Rattle.std.specs.Ordering.{nat_cmp}
use Rattle.std.specs.Option.{option_map_or}
use Rattle.std.specs.List.{filter, list_any}
use Rattle.std.specs.Borrow.{Bor}
use Rattle.std.specs.BTreeMap.{BTreeMap, get_by}
use Rattle.std.specs.Cmp.Lexicographic.{slice_cmp}
use Rattle.std.specs.Str.{bytes_eq}
use Rattle.eco_common.specs.declared.limits.TheConstants.{MAX_NETS}
use Rattle.eco_def.specs.declared.design.NetStatement.{NetStatement}
use Rattle.eco_def.specs.declared.design.TopPin.{TopPin}
use Rattle.eco_def.specs.declared.design.Design.{Design}
use Rattle.eco_def.specs.Design as said
use Rattle.eco_common.specs.KnownNames.{knows}
use Rattle.eco_issued_laws.specs.Changes.{Fresh, Changes, is_nil, stays_on, once_each}
use Rattle.eco_overlay.specs.declared.pin_move.PinMove.{PinMove}
use Rattle.eco_overlay.specs.declared.net_changes.NetChanges.{NetChanges}
use Rattle.eco_text.specs.Cursor.{word_bytes}
use Rattle.eco_overlay.specs.PinMoves.{new_joint, moved_pin}

-- the moves whose pins come to a net
abbrev pub coming : List PinMove → List ℕ → List PinMove
coming moves net = filter (λ m. bytes_eq net m.net.now && not m.stands) moves

-- the moves that are kept for a net
abbrev pub moves_on : BTreeMap (Bor (List ℕ)) (Vec PinMove Global) → List ℕ → List PinMove
moves_on added net = option_map_or (λ pins. pins.items) (get_by (λ k. slice_cmp nat_cmp net k.now) added) []

-- a statement of the net, in NETS or in either section
abbrev pub is_statement_of : List ℕ → Bool → List ℕ → NetStatement → Bool
is_statement_of text either net s = (either || not s.special) && bytes_eq (word_bytes text s.name) net

-- the pins that come to a net's statement in SPECIALNETS or in NETS
abbrev pub pins_for : NetChanges → Bool → List ℕ → List PinMove
pins_for c special net = if special && knows c.ordinary net then [] else moves_on c.added net

abbrev pub fresh_of : NetChanges → Bor (List ℕ) → Fresh
fresh_of c name = record { name = name.now; joints = map moved_pin (moves_on c.added name.now) }

abbrev pub changes_in : NetChanges → Changes
changes_in c = record {
  stays = stays_on (map new_joint c.moves.items);
  added = λ special net. map moved_pin (pins_for c special net);
  fresh = map (fresh_of c) c.fresh.items;
  numeral = decimal;
}

-- the statements of SPECIALNETS, or those of NETS
abbrev pub of_kind : Bool → List NetStatement → List NetStatement
of_kind special ss = filter (λ s. if special then s.special else not s.special) ss

-- a place stands before the first of the statements
abbrev pub is_before_first : ℕ → List said.Net → Bool
is_before_first place [] = false
is_before_first place (t ∷ ts) = nat_lt place t.start

-- the statements of NETS are no more than the limit
abbrev pub AreCountable : Design → Type 0
AreCountable d = length (of_kind false d.nets) ≤ MAX_NETS

-- the nets of these pins that get a pin and have no statement, each once
abbrev pub nets_first_stated : List ℕ → BTreeMap (Bor (List ℕ)) (Vec PinMove Global) → List NetStatement → List TopPin → List (List ℕ)
nets_first_stated text added ss ps = filter (λ net. not (list_any (is_statement_of text true net) ss) && not (is_nil (moves_on added net))) (once_each (map (λ p. word_bytes text p.net) ps))

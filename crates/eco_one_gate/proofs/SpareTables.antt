-- An embedding by a master's tables is one by the spare's names
use Rattle.std.proofs.Common.{◌≡◌, ℕ, zero, suc, ◌+◌, ◌-◌, ◌*◌, ◌/◌, ◌%◌, ◌^◌, ◌<◌, ◌≤◌, ◌==◌, Bool, true, false, cond, List, [], ◌∷◌, ◌++◌, length, map, take, drop, Some, refl, sym, ap, ◌∙◌, subst, arith, inl, inr, slice_get, replicate, length-append}
use Rattle.std.specs.List.{list_all}
use Rattle.std.proofs.Math.Nat.{pow-suc}
use Rattle.std.proofs.Math.Seq.{take-append_seam, drop-append_seam}
use Rattle.std.proofs.lemmas.Bool.{and_parts, and_from, eqb-true}
use Rattle.std.proofs.lemmas.Bool.Decides.{nat_tests}
use Rattle.std.specs.FinMap.{find}
use Rattle.std.proofs.lemmas.List.{length-map, length-replicate}
use Rattle.eco_func.specs.declared.output.OutputFn.{OutputFn}
use Rattle.eco_func.specs.Masters.{MasterTables, is_master}
use Rattle.eco_func.specs.Tables.{at, row, look}
use Rattle.eco_func.proofs.RowLaws.{bit_of_row}
use Rattle.eco_embed.specs.declared.feed.Feed.{Feed}
use Rattle.eco_embed.specs.declared.feed.Feed.TheVariants.{Zero, One, Input}
use Rattle.eco_embed.specs.declared.embedding.Embedding.{Embedding}
use Rattle.eco_embed.specs.Feeds.{feed_bit, feed_value, fed_row, is_among, is_zero}
use Rattle.eco_embed.specs.Embeddings as master
use Rattle.eco_embed.proofs.ListLaws.{all_bits}
use Rattle.eco_net.specs.declared.kind.Kind.TheVariants.{Gate as GivenGate}
use Rattle.eco_net.specs.Netlist.{Name, name_cmp, Component, Role, GateInput, GateOutput, pins_of, role_of, input_names}
use Rattle.eco_net.specs.Valuation.{table_value}
use Rattle.eco_net.specs.Listing.{bits_of, given_kind}
use Rattle.eco_net.proofs.GateTables.{look_is}
use Rattle.eco_net.proofs.Basics.{Has, same_Some, contains_from_has, has_from_contains}
use Rattle.eco_net.proofs.Places.{push_last}
use Rattle.eco_net.proofs.MasterPins.{Parts, parts, gate_is_kind}
use Rattle.eco_net.proofs.Named.{find_at}
use Rattle.eco_one_gate.specs.declared.one_gate.OneGate.{OneGate}
use Rattle.eco_one_gate.specs.OneGates.{IsEmbedded}

-- ---- tables and rows

-- so many bits of a row
bits_at : ℕ → ℕ → List Bool
bits_at zero r = []
bits_at (suc k) r = (r % 2 == 1) ∷ bits_at k (r / 2)

length_bits : (k r : ℕ) → length (bits_at k r) ≡ k
unfolding bits_at
length_bits zero r = refl
length_bits (suc k) r = ap suc (length_bits k (r / 2))

parity : (r : ℕ) → cond (r % 2 == 1) 1 0 ≡ r % 2
parity r = go (r % 2 == 1) refl
  where
    go : (b : Bool) → (r % 2 == 1) ≡ b → cond b 1 0 ≡ r % 2
    go true e = sym (eqb-true (r % 2) 1 e)
    go false e = grind (arith, nat_tests)

row_of_bits : (k r : ℕ) → r < 2 ^ k → row (bits_at k r) ≡ r
unfolding bits_at
row_of_bits zero r h = let one : 2 ^ 0 ≡ 1 = refl in omega (arith, h, one)
row_of_bits (suc k) r h =
    let rest : row (bits_at k (r / 2)) ≡ r / 2 = row_of_bits k (r / 2) (omega (arith, h, pow-suc 2 k)) in
    omega (arith, rest, parity r)

-- ---- feeds

bit_is : (bits : List Bool) (f : Feed) → feed_bit (row bits) f ≡ feed_value bits f
bit_is bits Zero = refl
bit_is bits One = refl
bit_is bits (Input i) = bit_of_row bits i

bits_are : (bits : List Bool) (feeds : List Feed) → map (feed_bit (row bits)) feeds ≡ map (feed_value bits) feeds
bits_are bits [] = refl
bits_are bits (f ∷ fs) = λ i. bit_is bits f i ∷ bits_are bits fs i

all_among : (k : ℕ) (feeds : List Feed) → list_all (is_among k) feeds ≡ true → (f : Feed) → Has feeds f → is_among k f ≡ true
all_among k [] e f h = absurd h
all_among k (t ∷ ts) e f (inl s) = ap (is_among k) (sym s) ∙ (and_parts (is_among k t) (list_all (is_among k) ts) e).0
all_among k (t ∷ ts) e f (inr h) = all_among k ts (and_parts (is_among k t) (list_all (is_among k) ts) e).1 f h

among_all : (k : ℕ) (feeds : List Feed) → ((f : Feed) → Has feeds f → is_among k f ≡ true) → list_all (is_among k) feeds ≡ true
among_all k [] h = refl
among_all k (t ∷ ts) h = and_from (is_among k t) (list_all (is_among k) ts) (h t (inl refl)) (among_all k ts (λ f i. h f (inr i)))

zeros : (n : ℕ) → list_all is_zero (replicate n Zero) ≡ true
zeros zero = refl
zeros (suc n) = zeros n

-- ---- a spare with one output

-- the embedding of feeds: the first output, and Zero past the feeds
abbrev pub embedding : List Feed → Embedding
embedding feeds = record { output = 0; pins = feeds ++ replicate (6 - length feeds) Zero }

same_table : {t u : List Bool} → Some (GateOutput t) ≡ Some (GateOutput u) → t ≡ u
same_table e = cc

module _ (one : OneGate) (m : MasterTables) (o : OutputFn) (x : Component) (is : is_master m.inputs m.outputs ≡ true) (outs : m.outputs ≡ o ∷ []) (kind : x.kind ≡ given_kind (GivenGate m)) (rows : length one.inputs.items ≡ one.table.inputs) where
  abbrev feeds : List Feed
  feeds = one.feeds.items

  said : Parts m.inputs m.outputs
  said = parts m.inputs m.outputs is

  -- the output's table has the master's inputs
  over : o.table.inputs ≡ length m.inputs
  over =
      eqb-true o.table.inputs (length m.inputs)
      (and_parts (o.table.inputs == length m.inputs) true (ap (list_all (λ (o : OutputFn). o.table.inputs == length m.inputs)) (sym outs) ∙ said.tables)).0

  last : slice_get (pins_of (given_kind (GivenGate m))) (length m.inputs) ≡ Some (o.pin, GateOutput (bits_of o.table))
  last =
      ap (λ os. slice_get (map {B = Name × Role} (λ p. (p, GateInput)) m.inputs ++ map {B = Name × Role} (λ o. (o.0, GateOutput o.1)) (map {B = Name × List Bool} (λ (o : OutputFn). (o.pin, bits_of o.table)) os)) (length m.inputs)) outs
      ∙ ap (slice_get (map {B = Name × Role} (λ p. (p, GateInput)) m.inputs ++ (o.pin, GateOutput (bits_of o.table)) ∷ [])) (sym (length-map m.inputs (λ p. (p, GateInput))))
      ∙ push_last (map {B = Name × Role} (λ p. (p, GateInput)) m.inputs) (o.pin, GateOutput (bits_of o.table))

  pub output_computes : role_of x o.pin ≡ Some (GateOutput (bits_of o.table))
  output_computes =
      ap (λ k. find name_cmp o.pin (pins_of k)) kind
      ∙ find_at (pins_of (given_kind (GivenGate m))) (length m.inputs) (o.pin, GateOutput (bits_of o.table)) (gate_is_kind m is).apart last

  module _ (count : length feeds ≡ length m.inputs) where
    taken : take (length m.inputs) (feeds ++ replicate (6 - length feeds) Zero) ≡ feeds
    taken = ap (λ n. take n (feeds ++ replicate (6 - length feeds) Zero)) (sym count) ∙ take-append_seam feeds (replicate (6 - length feeds) Zero)

    dropped : drop (length m.inputs) (feeds ++ replicate (6 - length feeds) Zero) ≡ replicate (6 - length feeds) Zero
    dropped = ap (λ n. drop n (feeds ++ replicate (6 - length feeds) Zero)) (sym count) ∙ drop-append_seam feeds (replicate (6 - length feeds) Zero)

    by_look : (bits : List Bool) → table_value (bits_of o.table) (map (feed_value bits) feeds) ≡ look o.table (map (feed_value bits) feeds)
    by_look bits = look_is o.table (map (feed_value bits) feeds) (length-map feeds (feed_value bits) ∙ count ∙ sym over)

    pub to_names : master.Embeds one.table m (embedding feeds) → IsEmbedded one x o.pin
    to_names e =
        let same : e.chosen ≡ o = same_Some (sym e.is_output ∙ ap (λ os. slice_get os 0) outs) in
        let serves : master.Serves one.table o.table feeds = subst (master.Serves one.table o.table) taken (subst (λ c. master.Serves one.table c.table (master.feeds_of m (embedding feeds))) same e.serves) in
        record {
          chosen = bits_of o.table;
          is_output = output_computes;
          one_each = count ∙ ap (λ k. length (input_names k)) (sym kind);
          among = λ f c. subst (λ n. is_among n f ≡ true) (sym rows) (all_among one.table.inputs feeds serves.among f (has_from_contains feeds f c));
          same = λ bits h. by_look bits ∙ all_bits one.table o.table feeds serves bits (h ∙ rows) ∙ sym (look_is one.table bits (h ∙ rows));
        }

    computes : IsEmbedded one x o.pin → (r : ℕ) → r < 2 ^ one.table.inputs → at o.table (fed_row feeds r) ≡ at one.table r
    computes e r h =
        let bits = bits_at one.table.inputs r in
        let its_row : row bits ≡ r = row_of_bits one.table.inputs r h in
        let long : length bits ≡ one.table.inputs = length_bits one.table.inputs r in
        let chosen : e.chosen ≡ bits_of o.table = same_table (sym e.is_output ∙ output_computes) in
        ap (λ n. look o.table (map (feed_bit n) feeds)) (sym its_row)
        ∙ ap (look o.table) (bits_are bits feeds)
        ∙ sym (by_look bits)
        ∙ ap (λ t. table_value t (map (feed_value bits) feeds)) (sym chosen)
        ∙ e.same bits (long ∙ sym rows)
        ∙ look_is one.table bits long
        ∙ ap (at one.table) its_row

    pub to_tables : IsEmbedded one x o.pin → master.Embeds one.table m (embedding feeds)
    to_tables e = record {
      places = length-append feeds (replicate (6 - length feeds) Zero) ∙ ap (λ n. length feeds + n) (length-replicate (6 - length feeds) Zero) ∙ six;
      chosen = o;
      is_output = ap (λ os. slice_get os 0) outs;
      serves = record {
        among = ap (list_all (is_among one.table.inputs)) taken ∙ among_all one.table.inputs feeds (λ f i. subst (λ n. is_among n f ≡ true) rows (e.among f (contains_from_has feeds f i)));
        computes = λ r h. ap (λ fs. at o.table (fed_row fs r)) taken ∙ computes e r h;
      };
      past = ap (list_all is_zero) dropped ∙ zeros (6 - length feeds);
    }
      where
        six : length feeds + (6 - length feeds) ≡ 6
        six = omega (arith, count, said.inputs)

  pub count_of : IsEmbedded one x o.pin → length feeds ≡ length m.inputs
  count_of e = e.one_each ∙ ap (λ k. length (input_names k)) kind

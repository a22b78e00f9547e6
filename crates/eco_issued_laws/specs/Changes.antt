-- What changes in the nets of a design, by names alone.
use Rattle.std.specs.Prelude.{ℕ, nat_lt, Bool, true, false, not, ◌&&◌, ◌||◌, List, [], ◌∷◌, ◌++◌, map, if◌then◌else◌, codes}
use Rattle.std.specs.List.{filter, list_all, list_any}
use Rattle.std.specs.Str.{bytes_eq}
use Rattle.std.specs.Fmt.{decimal}
pub use Rattle.eco_common.specs.Joints.{NewJoint}
use Rattle.eco_def.specs.Named.{NamedJoint, NamedNet, NamedDesign}

-- ---- bytes in order

-- the first bytes stand before the second, as in a dictionary
abbrev pub precedes : List ℕ → List ℕ → Bool
precedes xs [] = false
precedes [] (y ∷ ys) = true
precedes (x ∷ xs) (y ∷ ys) = if nat_lt x y then true else (if nat_lt y x then false else precedes xs ys)

-- in order by component, then by pin
abbrev pub pin_precedes : NamedJoint → NamedJoint → Bool
pin_precedes j k = if bytes_eq j.comp k.comp then precedes j.pin k.pin else precedes j.comp k.comp

abbrev pub put_in : {A : Type 0} → (A → A → Bool) → A → List A → List A
put_in before x [] = x ∷ []
put_in before x (y ∷ ys) = if before y x then y ∷ put_in before x ys else x ∷ y ∷ ys

-- the same values, in order
abbrev pub in_order : {A : Type 0} → (A → A → Bool) → List A → List A
in_order before [] = []
in_order before (x ∷ xs) = put_in before x (in_order before xs)

-- ---- the joints of a net

-- the statements of SPECIALNETS, and then those of NETS
abbrev pub statements : NamedDesign → List NamedNet
statements d = d.special ++ d.nets

-- PIN names the design's own pins, and * every component that has the pin: no component
abbrev pub is_no_component : List ℕ → Bool
is_no_component comp = bytes_eq comp (codes "PIN") || bytes_eq comp (codes "*")

-- the joint is of that pin
abbrev pub is_joint_of : NewJoint → NamedJoint → Bool
is_joint_of n j = not (is_no_component j.comp) && (bytes_eq n.comp j.comp && bytes_eq n.pin j.pin)

-- A joint of a net goes where its pin is put on another net, and stays otherwise.
abbrev pub stays_on : List NewJoint → List ℕ → NamedJoint → Bool
stays_on joints net j = list_all (λ n. not (is_joint_of n j) || bytes_eq n.net net) joints

-- some statement of the pin's net has its joint
abbrev pub stands : List NamedNet → NewJoint → Bool
stands ss n = list_any (λ s. bytes_eq s.name n.net && list_any (is_joint_of n) s.joints) ss

abbrev pub has_statement : List NamedNet → List ℕ → Bool
has_statement ss net = list_any (λ s. bytes_eq s.name net) ss

-- a net is in a design where it has a statement or a top pin names it
abbrev pub has_net : NamedDesign → List ℕ → Bool
has_net d net = has_statement (statements d) net || list_any (λ p. bytes_eq p.net net) d.pins

abbrev pub pin_joint : NewJoint → NamedJoint
pin_joint n = record { comp = n.comp; pin = n.pin }

-- the pins that are put on a net and don't stand there yet, in order
abbrev pub new_pins : NamedDesign → List NewJoint → List ℕ → List NamedJoint
new_pins d joints net = in_order pin_precedes (map pin_joint (filter (λ n. bytes_eq n.net net && not (stands (statements d) n)) joints))

-- ---- nets without a statement

-- a net that is new, or gets its first statement, with its pins
pub record Fresh : Type 0 where
  pub name : List ℕ
  pub joints : List NamedJoint

abbrev pub is_nil : {A : Type 0} → List A → Bool
is_nil [] = true
is_nil (x ∷ xs) = false

-- each name once
abbrev pub once_each : List (List ℕ) → List (List ℕ)
once_each [] = []
once_each (n ∷ ns) = n ∷ filter (λ m. not (bytes_eq m n)) (once_each ns)

-- the nets that only top pins name, and that get a pin
abbrev pub stated_first : NamedDesign → List NewJoint → List (List ℕ)
stated_first d joints = filter (λ net. not (has_statement (statements d) net) && not (is_nil (new_pins d joints net))) (once_each (map (λ p. p.net) d.pins))

abbrev pub fresh_nets : NamedDesign → List NewJoint → List (List ℕ) → List Fresh
fresh_nets d joints nets = map (λ name. record { name = name; joints = new_pins d joints name }) (in_order precedes (nets ++ stated_first d joints))

-- ---- all of it

-- stays: whether a joint stays with its net. added: the pins that a net's statement gets, in SPECIALNETS or in NETS. fresh: new statements. numeral: a count as it is printed.
pub record Changes : Type 0 where
  pub stays : List ℕ → NamedJoint → Bool
  pub added : Bool → List ℕ → List NamedJoint
  pub fresh : List Fresh
  pub numeral : ℕ → List ℕ

-- Added pins go to the statement in NETS where the net has one.
abbrev pub changes_of : NamedDesign → List NewJoint → List (List ℕ) → Changes
changes_of d joints nets = record {
  stays = stays_on joints;
  added = λ special net. if special && has_statement d.nets net then [] else new_pins d joints net;
  fresh = fresh_nets d joints nets;
  numeral = decimal;
}

-- A spare becomes a gate when its input pins are tied.
use Rattle.std.specs.Prelude.{◌≡◌, ℕ, Bool, true, List, map, length, Some}
use Rattle.std.specs.List.{Contains}
use Rattle.eco_embed.specs.declared.feed.Feed.{Feed}
use Rattle.eco_embed.specs.Feeds.{feed_value, is_among}
use Rattle.eco_net.specs.Netlist.{Name, Component, GateOutput, role_of, input_names}
use Rattle.eco_net.specs.Valuation.{table_value}

-- An embedding of a gate with this many inputs and this table in a component: it chooses an output of the component, and a feed
-- for each of its input pins, so that at every row of the gate the chosen output's table has at the row that the feeds make of it
-- the value of the gate's.
pub record SpareEmbeds (inputs : ℕ) (table : List Bool) (x : Component) (output : Name) (feeds : List Feed) : Type 0 where
  pub chosen : List Bool
  pub is_output : role_of x output ≡ Some (GateOutput chosen)
  pub one_each : length feeds ≡ length (input_names x.kind)
  pub among : (f : Feed) → Contains feeds f → is_among inputs f ≡ true
  pub same : (bits : List Bool) → length bits ≡ inputs → table_value chosen (map (feed_value bits) feeds) ≡ table_value table bits

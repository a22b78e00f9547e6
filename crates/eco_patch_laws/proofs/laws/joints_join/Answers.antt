use Rattle.eco_patch_laws.proofs.Pins.{joints_join as join, other_pins_stay, components_stay, nets_join, other_nets_stay}
use Rattle.eco_patch_laws.proofs.Firsts.{first_counts}
use Rattle.eco_patch_laws.proofs.laws.joints_join.Goals as goal

pub returns-clause-pins : goal.returns-clause-pins
returns-clause-pins c = join

pub returns-clause-other_pins : goal.returns-clause-other_pins
returns-clause-other_pins c = other_pins_stay

pub returns-clause-components : goal.returns-clause-components
returns-clause-components c = components_stay

pub returns-clause-nets : goal.returns-clause-nets
returns-clause-nets c = nets_join

pub returns-clause-other_nets : goal.returns-clause-other_nets
returns-clause-other_nets c = other_nets_stay

pub returns-clause-firsts : goal.returns-clause-firsts
returns-clause-firsts c = first_counts

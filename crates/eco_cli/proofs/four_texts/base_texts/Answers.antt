use Rattle.eco_cli.proofs.FourTexts.{taken_out}
use Rattle.eco_cli.proofs.four_texts.base_texts.Goals as goal

pub returns : goal.returns
returns c =
    taken_out c.args.texts.items c.remove-lef.new.self.items c.remove-def.new.self.items c.remove-functions.new.self.items
    c.remove-lef.result c.remove-def.result c.remove-functions.result c.remove-desk.result c.requires
    c.remove-lef.ensures.value c.remove-lef.ensures.by_index.2 c.remove-def.ensures.value c.remove-def.ensures.by_index.2
    c.remove-functions.ensures.value c.remove-functions.ensures.by_index.2 c.remove-desk.ensures.value

-- What holds of an open base.
use Rattle.eco_net.specs.Bases.{IsBase}
use Rattle.eco_base.specs.Bases.{BaseParts, frozen, IsOpen}

-- It is a base that the laws of patches speak of.
abbrev pub OpenIsBase : Type 0
OpenIsBase = (b : BaseParts) → IsOpen b → IsBase (frozen b.texts)

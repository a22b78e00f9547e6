-- Sizes of macros.
use Rattle.std.specs.Prelude.{nat_le, ◌&&◌, Bool}
use Rattle.eco_common.specs.declared.geometry.Size.{Size}
use Rattle.eco_common.specs.declared.limits.TheConstants.{MAX_MILLIONTHS}

-- neither length is above 10,000 microns
abbrev pub keeps_limit : Size → Bool
keeps_limit s = nat_le s.width MAX_MILLIONTHS && nat_le s.height MAX_MILLIONTHS

-- Parts of expressions, joined.
use Rattle.std.proofs.Common.{◌≡◌, Option, Some, None, refl, option_map}
use Rattle.std.specs.Option.{option_or}

pub mapped_or : {X Y : Type 0} (f : X → Y) (a b : Option X) → option_map f (option_or a b) ≡ option_or (option_map f a) (option_map f b)
mapped_or f None b = refl
mapped_or f (Some x) b = refl

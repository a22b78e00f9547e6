-- Bases whose issued texts can be read again.
use Rattle.std.specs.Prelude.{◌≡◌, false, codes}
use Rattle.std.specs.List.{Contains}
use Rattle.std.specs.Str.{bytes_eq}
use Rattle.eco_def.specs.Named.{NamedComp, NamedPin}
use Rattle.eco_def.specs.View.{design_in}
use Rattle.eco_issued_laws.specs.Changes.{is_no_component}
use Rattle.eco_base.specs.Texts.{TextParts}
use Rattle.eco_base.specs.Joined.{design_names}

-- The count word of NETS isn't a quoted word, which would run into what follows where it is replaced. No component is named
-- PIN or *, which stand for something else in a joint, and no top pin is on a net MUSTJOIN, which begins another kind of
-- statement.
pub record IsPlain (t : TextParts) : Type 0 where
  pub count : (design_in t.text t.design).nets.count.quoted ≡ false
  pub comps : (c : NamedComp) → Contains (design_names t).comps c → is_no_component c.name ≡ false
  pub tops : (p : NamedPin) → Contains (design_names t).pins p → bytes_eq p.net (codes "MUSTJOIN") ≡ false

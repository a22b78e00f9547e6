-- Objects that are laid ready under names in memory.
use Rattle.std.specs.Prelude.{◌≡◌, Some, Result, Ok, Err, ℕ, List, [], ◌∷◌, string_bytes, if◌then◌else◌}
use Rattle.std.specs.Str.{bytes_eq}
use Rattle.eco_text.specs.InMemory.{InMemory}
use Rattle.eco_cli.specs.declared.laid.LaidSource.{LaidSource}
use Rattle.eco_cli.specs.declared.laid.LaidSink.{LaidSink}
use Rattle.eco_cli.specs.declared.open.Open.{Open}
use Rattle.eco_cli.specs.declared.open.OpenKind.{OpenKind}
use Rattle.eco_cli.specs.declared.open.OpenKind.TheVariants.{Source, Sink}
use Rattle.eco_cli.specs.declared.host_fault.HostFault.{HostFault}
use Rattle.eco_cli.specs.declared.host_fault.HostFault.TheVariants.{Refused, Memory}
use Rattle.eco_cli.specs.Opens.{Told, Asked, for_source, for_sink}

pub record Laid : Type 0 where
  pub name : List ℕ
  pub object : InMemory

-- the objects of a name, in order
abbrev pub ready : List Laid → List ℕ → List InMemory
ready [] name = []
ready (l ∷ ls) name = if bytes_eq l.name name then l.object ∷ ready ls name else ready ls name

-- what a host in memory has: what is laid ready, the opens asked, what was taken back, its counts, and how many objects are open
pub record Hosted : Type 0 where
  pub sources : List Laid
  pub sinks : List Laid
  pub asked : List Asked
  pub sources_back : List InMemory
  pub sinks_back : List InMemory
  pub refused : ℕ
  pub read_faults : ℕ
  pub write_faults : ℕ
  pub open_sources : ℕ
  pub open_sinks : ℕ

abbrev pub laid_source : LaidSource → Laid
laid_source l = record { name = string_bytes l.name; object = l.source }

abbrev pub laid_sink : LaidSink → Laid
laid_sink l = record { name = string_bytes l.name; object = l.sink }

abbrev pub asked_by : OpenKind → List ℕ → Asked
asked_by Source name = for_source name
asked_by Sink name = for_sink name

abbrev pub asked_of : Open → Asked
asked_of o = asked_by o.kind (string_bytes o.name)

-- what a host in memory tells
abbrev pub hosted : Told Hosted InMemory InMemory
hosted = record {
  sources = λ h. Some (ready h.sources);
  sinks = λ h. Some (ready h.sinks);
  asked = λ h. Some h.asked;
  sources_back = λ h. Some h.sources_back;
  sinks_back = λ h. Some h.sinks_back;
  refused = λ h. h.refused;
  read_faults = λ h. h.read_faults;
  write_faults = λ h. h.write_faults;
  open_sources = λ h. h.open_sources;
  open_sinks = λ h. h.open_sinks;
}

-- an open is refused where nothing is laid ready under the name
abbrev pub RefusesAbsent : {A : Type 0} → List InMemory → Result A HostFault → Type 0
RefusesAbsent laid (Ok x) = Unit {0}
RefusesAbsent laid (Err Refused) = laid ≡ []
RefusesAbsent laid (Err Memory) = Unit {0}

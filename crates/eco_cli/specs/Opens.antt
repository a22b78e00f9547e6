-- What a host tells of its objects, and what its calls do to that.
use Rattle.std.specs.Prelude.{◌≡◌, ℕ, ◌<◌, ◌≤◌, ◌+◌, List, [], ◌∷◌, ◌++◌, Option, Some, None, Result, Ok, Err, if◌then◌else◌}
use Rattle.std.specs.Option.{option_map}
use Rattle.std.specs.Str.{bytes_eq}
use Rattle.eco_common.specs.Causes.{Rose}
use Rattle.eco_cli.specs.declared.host_fault.HostFault.{HostFault}
use Rattle.eco_cli.specs.declared.host_fault.HostFault.TheVariants.{Refused, Memory}

-- an open that was asked: its kind and its name
pub data Asked : Type 0 where
  for_source : (name : List ℕ) → Asked
  for_sink : (name : List ℕ) → Asked

-- what the next opens of each name give, in order, where it is told
abbrev pub Ready : Type 0 → Type 0
Ready A = Option (List ℕ → List A)

abbrev pub rest_of : {A : Type 0} → List A → List A
rest_of [] = []
rest_of (x ∷ xs) = xs

-- the lists without the first of a name
abbrev pub without_first : {A : Type 0} → List ℕ → Ready A → Ready A
without_first name ready = option_map (λ lists other. if bytes_eq name other then rest_of (lists other) else lists other) ready

-- the object is the first that is ready under the name, where that is told
abbrev pub IsFirst : {A : Type 0} → List ℕ → Ready A → A → Type 0
IsFirst {A} name ready x = (lists : List ℕ → List A) → ready ≡ Some lists → (others : List A) × (lists name ≡ x ∷ others)

-- an open gives the first of its list, and takes it away; a refused open or one without memory changes no list
abbrev pub Gives : {A : Type 0} → List ℕ → Ready A → Ready A → Result A HostFault → Type 0
Gives name old new (Ok x) = IsFirst name old x × (new ≡ without_first name old)
Gives name old new (Err e) = new ≡ old

-- these came after what was there, where it is told
abbrev pub Adds : {A : Type 0} → List A → Option (List A) → Option (List A) → Type 0
Adds xs old new = new ≡ option_map (λ before. before ++ xs) old

-- one more open was asked, unless it found no memory
abbrev pub with_asked : Option (List Asked) → Asked → Option (List Asked)
with_asked asked a = option_map (λ before. before ++ a ∷ []) asked

abbrev pub Asks : {A : Type 0} → Asked → Option (List Asked) → Option (List Asked) → Result A HostFault → Type 0
Asks a old new (Ok x) = new ≡ with_asked old a
Asks a old new (Err Refused) = new ≡ with_asked old a
Asks a old new (Err Memory) = new ≡ old

-- an opened object is one more that is to be given back
abbrev pub Opens : {A : Type 0} → ℕ → ℕ → Result A HostFault → Type 0
Opens old new (Ok x) = new ≡ old + 1
Opens old new (Err e) = new ≡ old

-- the count of refused opens hasn't fallen, and has risen where this one was refused
abbrev pub Refuses : {A : Type 0} → ℕ → ℕ → Result A HostFault → Type 0
Refuses old new (Ok x) = new ≡ old
Refuses old new (Err Refused) = (old ≤ new) × Rose old new
Refuses old new (Err Memory) = new ≡ old

-- a count that rises exactly where the object that was taken back has failed
pub record Counts (faults old new : ℕ) : Type 0 where
  pub failed : 0 < faults → Rose old new
  pub sound : faults ≡ 0 → new ≡ old
  pub later : old ≤ new

-- one more object was taken back, where it is told
abbrev pub with_back : {A : Type 0} → Option (List A) → A → Option (List A)
with_back back x = option_map (λ xs. xs ++ x ∷ []) back

-- a sink that tells its bytes has taken none
abbrev pub IsEmptyWhereTold : Option (List ℕ) → Type 0
IsEmptyWhereTold None = Unit {0}
IsEmptyWhereTold (Some bytes) = bytes ≡ []

-- what a host of type T tells, whose sources and sinks have the types I and O
pub record Told (T I O : Type 0) : Type 0 where
  pub sources : T → Ready I
  pub sinks : T → Ready O
  pub asked : T → Option (List Asked)
  pub sources_back : T → Option (List I)
  pub sinks_back : T → Option (List O)
  pub refused : T → ℕ
  pub read_faults : T → ℕ
  pub write_faults : T → ℕ
  pub open_sources : T → ℕ
  pub open_sinks : T → ℕ

-- no count has fallen, and as much is open as was
pub record Settled {T I O : Type 0} (h : Told T I O) (old new : T) : Type 0 where
  pub refusals : h.refused old ≤ h.refused new
  pub read_faults : h.read_faults old ≤ h.read_faults new
  pub write_faults : h.write_faults old ≤ h.write_faults new
  pub open_sources : h.open_sources new ≡ h.open_sources old
  pub open_sinks : h.open_sinks new ≡ h.open_sinks old

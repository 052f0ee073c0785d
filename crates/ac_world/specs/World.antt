-- What is told of the outside before and after a call: of the source, of the output and of the report. The standard knows no
-- files, so all of it is this project's own.
use Rattle.std.specs.Prelude.{ℕ, ◌≤◌, List, Option}

-- what an object of the outside tells: its bytes, or not, and how many of its calls failed
pub record Told : Type 0 where
  pub bytes : Option (List ℕ)
  pub faults : ℕ

abbrev pub told : {A : Type 0} → (A → Option (List ℕ)) → (A → ℕ) → A → Told
told bytes faults object = record { bytes = bytes object; faults = faults object }

-- what the two sinks tell
pub record Sinks : Type 0 where
  pub output : Told
  pub report : Told

abbrev pub sinks : {O N : Type 0} → (O → Option (List ℕ)) → (O → ℕ) → (N → Option (List ℕ)) → (N → ℕ) → O → N → Sinks
sinks taken output_faults noted report_faults output report =
    record { output = told taken output_faults output; report = told noted report_faults report }

-- what all three tell
pub record World : Type 0 where
  pub input : Told
  pub sinks : Sinks

abbrev pub world : {S O N : Type 0} → (S → Option (List ℕ)) → (S → ℕ) → (O → Option (List ℕ)) → (O → ℕ)
    → (N → Option (List ℕ)) → (N → ℕ) → S → O → N → World
world left input_faults taken output_faults noted report_faults input output report =
    record { input = told left input_faults input; sinks = sinks taken output_faults noted report_faults output report }

-- no count of faults falls
abbrev pub SinksNeverFall : Sinks → Sinks → Type 0
SinksNeverFall old new = (old.output.faults ≤ new.output.faults) × (old.report.faults ≤ new.report.faults)

abbrev pub NeverFalls : World → World → Type 0
NeverFalls old new = (old.input.faults ≤ new.input.faults) × SinksNeverFall old.sinks new.sinks

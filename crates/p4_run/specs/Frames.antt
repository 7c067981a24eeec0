-- Cited by the clauses of `Frame`: what it holds, and which frames fit a program.
use Rattle.std.specs.Prelude.{◌≡◌, ◌==◌, ◌&&◌, Bool, ℕ, List, length}
use Rattle.packed_fields.specs.AtOnce.{bytes_in}
use Rattle.p4_ir.specs.P4Tree.{Program, program_layout}
use Rattle.p4_ir.specs.Switch.{State}
use Rattle.p4_run.specs.Running.{layout_in}
use Rattle.p4_run.specs.RegisterStates.{Fit, state_in}
use Rattle.p4_run.specs.States.{registers_fit}
use Rattle.p4_run.specs.declared.frame.Frame.{Frame}
use Rattle.p4_run.specs.declared.loaded.Loaded.{Loaded}

-- A frame fits a program: it has a number for each field, which fits the field's width, and the bytes of the headers.
pub record Fits (p : Program) (f : Frame) : Type 0 where
  pub left : Fit p f.left
  pub current : Fit p f.current
  pub bytes : length f.bytes.items ≡ bytes_in (program_layout p)

-- the state that the last ingress left
abbrev pub left_in : Loaded → Frame → State
left_in l f = state_in (layout_in l) f.left

-- the bytes of the headers of the last run
abbrev pub headers_in : Frame → List ℕ
headers_in f = f.bytes.items

-- the same as a test
abbrev pub frame_fits : Program → Frame → Bool
frame_fits p f = (length f.bytes.items == bytes_in (program_layout p)) && registers_fit p f.left && registers_fit p f.current

-- Networks: switches with their programs and rows, links and hosts. Where they are read from files, lists ascend by their
-- first numbers. It follows the sections "The network" and "Bundle files" of docs/FORMATS.md. Programs have no tagged form,
-- and rows have one version.
use Rattle.std.specs.Prelude.{ℕ, List, Option}
use Rattle.p4_ir.specs.P4Tree.{Program, RowsFile}

pub data LinkEnd : Type 0 where
  to_switch : (number port : ℕ) → LinkEnd
  to_host : (host : ℕ) → LinkEnd

pub record Link : Type 0 where
  pub switch : ℕ
  pub port : ℕ
  pub to : LinkEnd

-- a host, and the switch and port where it is attached
pub record HostPort : Type 0 where
  pub host : ℕ
  pub attach : Option (ℕ × ℕ)

pub record SwitchFiles : Type 0 where
  pub number : ℕ
  pub program : Program
  pub rows : RowsFile

pub record NetData : Type 0 where
  pub ports : ℕ
  pub switches : List SwitchFiles
  pub links : List Link
  pub hosts : List HostPort

-- Cited by `From<BundleFault>` and by `unread` of refusal.rt. What is reported of a bundle that was not
-- written, and of one that is not read.
use Rattle.bundle_reader.specs.declared.fault.ReadFault.{ReadFault as ReadFaultOf}
use Rattle.bundle_reader.specs.declared.fault.ReadFault.TheVariants as read
use Rattle.cocoon_io.specs.declared.folder.FolderFault.TheVariants.{Failed, TooLong as Long, NoMemory as Wanting}
use Rattle.net_bundle.specs.Writing.{most_of}
use Rattle.net_bundle.specs.declared.fault.BundleFault.{BundleFault}
use Rattle.net_bundle.specs.declared.fault.BundleFault.TheVariants as bundle
use Rattle.command_reports.specs.declared.files.CommandFile.TheVariants.{Bundle}
use Rattle.command_reports.specs.declared.refusal.BundleCause.TheVariants.{Missing, Stale, NotJson, P4, Shape, Load}
use Rattle.command_reports.specs.declared.refusal.Refusal.{Refusal}
use Rattle.command_reports.specs.declared.refusal.Refusal.TheVariants.{ReadFault, WriteFault, TooLong, Unread, NoMemory}

-- why a bundle was not written
abbrev pub bundle_refusal : BundleFault → Refusal
bundle_refusal (bundle.Folder file fault) = WriteFault (Bundle file)
bundle_refusal (bundle.Limit file) = TooLong (Bundle file) (most_of file)
bundle_refusal bundle.NoMemory = NoMemory

-- what is told of a bundle that is not read
abbrev pub unread_as : ReadFaultOf → Refusal
unread_as (read.Missing file) = Unread file Missing
unread_as (read.Folder file Failed) = ReadFault (Bundle file)
unread_as (read.Folder file (Long n)) = TooLong (Bundle file) (most_of file)
unread_as (read.Folder file Wanting) = NoMemory
unread_as (read.Stale file found kept) = Unread file (Stale found kept)
unread_as (read.NotJson file) = Unread file NotJson
unread_as (read.P4 file fault) = Unread file (P4 fault)
unread_as (read.Shape file pointer) = Unread file (Shape pointer)
unread_as (read.Load file fault) = Unread file (Load fault)
unread_as read.NoMemory = NoMemory

-- it is about what stands in the files
abbrev pub IsOfFiles : Refusal → Type 0
IsOfFiles (ReadFault file) = ⊥
IsOfFiles NoMemory = ⊥
IsOfFiles r = Unit {0}

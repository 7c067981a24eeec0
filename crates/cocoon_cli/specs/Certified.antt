-- Cited by the clause `certified` of `run`. What a `compile` that succeeds leaves of the reason why its design may be believed:
-- a file of certificates, one for each obligation of the design, and beside it the digest of the design. It follows
-- "Certificates" in docs/FORMATS.md.
use Rattle.std.specs.Prelude.{◌≡◌, ℕ, List, Option, Some, None}
use Rattle.std.specs.FinMap.{get}
use Rattle.cocoon_io.specs.Files.{Files}
use Rattle.cocoon_num.specs.Reads.{Reads}
use Rattle.cocoon_num.specs.Tree.{Design}
use Rattle.json_forms.specs.Values.{IsJson}
use Rattle.net_bundle.specs.Bundle.{certificates_name}
use Rattle.net_bundle.specs.BundleNames.{digest_of, file_name, net_name}
use Rattle.net_bundle.specs.NetJson.{NetFile, net_data}
use Rattle.cert_text.specs.Certifying.{Certifies}
use Rattle.command_line.specs.Command.{Command, compile, update}

-- The files hold `after` a `compile` certificates of the design that stood in the files `before`: by the file of the network it
-- is this design.
pub record Certified (before after : Files) (design_name out : List ℕ) : Type 0 where
  pub text : List ℕ
  pub design : Design
  pub is : get before design_name ≡ Some text
  pub reads : Reads text design
  -- the certificates
  pub certificates : List ℕ
  pub stand : get after (file_name out certificates_name) ≡ Some certificates
  pub certify : Certifies design certificates
  -- the file of the network
  pub network : NetFile
  pub network_text : List ℕ
  pub network_is : get after (file_name out net_name) ≡ Some network_text
  pub json : IsJson network_text (net_data network)
  pub digest : network.design ≡ digest_of text

-- The same after an `update`. The certificates were there before, whoever made them, and nothing of them was changed.
pub record Recertified (before after : Files) (design_name out : List ℕ) : Type 0 where
  pub certified : Certified before after design_name out
  pub stood : get before (file_name out certificates_name) ≡ Some certified.certificates

-- the same of a command; of one that leaves no certificates there is nothing to say
abbrev pub CertifiedOf : Option Command → Option Files → Option Files → Type 0
CertifiedOf None before after = ⊥
CertifiedOf (Some (compile design defs out conflicts rounds)) None after = Unit {0}
CertifiedOf (Some (compile design defs out conflicts rounds)) (Some before) None = ⊥
CertifiedOf (Some (compile design defs out conflicts rounds)) (Some before) (Some after) =
    Certified before after design out
CertifiedOf (Some (update design defs out conflicts)) None after = Unit {0}
CertifiedOf (Some (update design defs out conflicts)) (Some before) None = ⊥
CertifiedOf (Some (update design defs out conflicts)) (Some before) (Some after) =
    Recertified before after design out
CertifiedOf (Some asked) before after = Unit {0}

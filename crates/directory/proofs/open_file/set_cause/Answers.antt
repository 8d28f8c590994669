use Rattle.directory.proofs.OpenLaws.{cause_directory, cause_none}
use Rattle.directory.proofs.open_file.set_cause.Goals as goal

pub returns-then-is_directory : goal.returns-then-is_directory
returns-then-is_directory c = cause_directory _ _ _ (cc) (cc)

pub returns : goal.returns
returns c = cause_none _ _ _ (cc) (cc)

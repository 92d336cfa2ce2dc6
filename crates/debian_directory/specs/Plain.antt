-- Names without where their bytes lie.
use Rattle.debian_directory.specs.Answers.{NameText}
use Rattle.debian_directory.specs.declared.name.Name.{Name}

abbrev pub plain_name : Name → NameText
plain_name n = record { name = n.name.now; architecture = n.architecture.now }

use Rattle.std.proofs.Common.{rules}
use Rattle.lines.specs.declared.verbs.Verb.TheVariants.{Write, Resize, OfHandle, OfPath, OfPaths}
use Rattle.lines.specs.declared.verbs.HandleVerb.TheVariants.{Close, StatOpen}
use Rattle.lines.specs.declared.verbs.PathVerb.TheVariants.{MakeFolder, Remove, RemoveFolder, ReadLink}
use Rattle.lines.specs.declared.verbs.PathsVerb.TheVariants.{Rename, MakeLink}
use Rattle.lines.proofs.Commands.{verb_read}
use Rattle.lines.proofs.verbs.Verb.of.Goals as goal

pub returns-in-close : goal.returns-in-close
returns-in-close c = verb_read c.args.word.now (OfHandle Close) (search rules) (search rules)

pub returns-in-write : goal.returns-in-write
returns-in-write c = verb_read c.args.word.now Write (search rules) (search rules)

pub returns-in-resize : goal.returns-in-resize
returns-in-resize c = verb_read c.args.word.now Resize (search rules) (search rules)

pub returns-in-remove : goal.returns-in-remove
returns-in-remove c = verb_read c.args.word.now (OfPath Remove) (search rules) (search rules)

pub returns-in-rename : goal.returns-in-rename
returns-in-rename c = verb_read c.args.word.now (OfPaths Rename) (search rules) (search rules)

pub returns-in-statopen : goal.returns-in-statopen
returns-in-statopen c = verb_read c.args.word.now (OfHandle StatOpen) (search rules) (search rules)

pub returns-in-makelink : goal.returns-in-makelink
returns-in-makelink c = verb_read c.args.word.now (OfPaths MakeLink) (search rules) (search rules)

pub returns-in-readlink : goal.returns-in-readlink
returns-in-readlink c = verb_read c.args.word.now (OfPath ReadLink) (search rules) (search rules)

pub returns-in-makefolder : goal.returns-in-makefolder
returns-in-makefolder c = verb_read c.args.word.now (OfPath MakeFolder) (search rules) (search rules)

pub returns-in-removefolder : goal.returns-in-removefolder
returns-in-removefolder c = verb_read c.args.word.now (OfPath RemoveFolder) (search rules) (search rules)

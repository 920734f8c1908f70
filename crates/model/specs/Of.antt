-- What the values that programs use mean.
-- Assumes nothing.
use Rattle.std.specs.Prelude.{ℕ, List, codes}
use Rattle.std.specs.Borrow.{Bor}
use Rattle.model.specs.declared.Way.{Way}
use Rattle.model.specs.declared.Way.TheVariants as way
use Rattle.model.specs.declared.Call.{Call}
use Rattle.model.specs.declared.Call.TheVariants as call
use Rattle.model.specs.declared.Kind.{Kind}
use Rattle.model.specs.declared.Kind.TheVariants as kind
use Rattle.model.specs.declared.Refusal.{Refusal}
use Rattle.model.specs.declared.Refusal.TheVariants as refusal
use Rattle.model.specs.declared.Reply.{Reply}
use Rattle.model.specs.declared.Reply.TheVariants as reply
use Rattle.model.specs.Calls

abbrev pub way_of : Way → Calls.Way
way_of way.Old = Calls.Old
way_of way.May = Calls.May
way_of way.New = Calls.New

-- a call whose bytes are what f says
abbrev pub call_by : {B : Type 0} → (f : B → List ℕ) → Call B → Calls.Call
call_by f (call.Open w b p) = Calls.Open (way_of w) b (f p)
call_by f (call.Close h) = Calls.Close h
call_by f (call.Read h from most) = Calls.Read h from most
call_by f (call.Write h from bs) = Calls.Write h from (f bs)
call_by f (call.Resize h n) = Calls.Resize h n
call_by f (call.Stat p) = Calls.Stat (f p)
call_by f (call.StatOpen h) = Calls.StatOpen h
call_by f (call.MakeFolder p) = Calls.MakeFolder (f p)
call_by f (call.Remove p) = Calls.Remove (f p)
call_by f (call.RemoveFolder p) = Calls.RemoveFolder (f p)
call_by f (call.NextName h n) = Calls.NextName h (f n)
call_by f (call.Rename p q) = Calls.Rename (f p) (f q)
call_by f (call.Join p q) = Calls.Join (f p) (f q)
call_by f (call.MakeLink to p) = Calls.MakeLink (f to) (f p)
call_by f (call.ReadLink p) = Calls.ReadLink (f p)
call_by f call.Sync = Calls.Sync

abbrev pub call_of : Call (Bor (List ℕ)) → Calls.Call
call_of = call_by (λ (p : Bor (List ℕ)). p.now)

abbrev pub kind_of : Kind → Calls.Kind
kind_of kind.File = Calls.AFile
kind_of kind.Folder = Calls.AFolder
kind_of kind.Link = Calls.ALink

-- the word for each kind
abbrev pub kind_word : Calls.Kind → List ℕ
kind_word Calls.AFile = codes "file"
kind_word Calls.AFolder = codes "folder"
kind_word Calls.ALink = codes "link"

-- the number of each refusal
abbrev pub number_of : Refusal → ℕ
-- a path that is none; no name to make, move or take away; a link to what is no path
number_of refusal.BadPath = 1
number_of refusal.NotFound = 2
-- a file or link where a folder must be
number_of refusal.NotAFolder = 3
-- a folder where none may be
number_of refusal.IsAFolder = 4
number_of refusal.AlreadyThere = 5
number_of refusal.FolderNotEmpty = 6
-- a ninth link
number_of refusal.TooManyLinks = 7
number_of refusal.NoSuchHandle = 8
-- the handle was not opened to write; the node is no link
number_of refusal.NotForWriting = 9
number_of refusal.NotALink = 9
-- above 65,536 bytes at once, an end beyond 2^32, a name above 255; the numbers of nodes are used up
number_of refusal.TooLarge = 10
number_of refusal.NumbersUsedUp = 10
-- a folder into itself or what is below it
number_of refusal.IntoItself = 11
number_of refusal.NotBuilt = 12
-- 64 handles are open
number_of refusal.TooManyOpen = 13
-- a card of a form that is not known
number_of refusal.UnknownForm = 19

abbrev pub reply_of : Reply → Calls.Reply
reply_of (reply.No why) = Calls.No (number_of why)
reply_of reply.Done = Calls.Done
reply_of (reply.Opened h) = Calls.Opened h
reply_of (reply.Bytes bs) = Calls.Bytes bs.now
reply_of (reply.Told s) = Calls.Told (kind_of s.kind) s.node s.size s.names
reply_of (reply.Named n) = Calls.Named n.now
reply_of reply.Full = Calls.Full

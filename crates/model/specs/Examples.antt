-- Worked examples: calls, what they answer, what a cut may leave, and what the tree weighs.
-- Assumes nothing.
use Rattle.std.specs.Prelude.{◌≡◌, ℕ, zero, suc, true, false, List, [], ◌∷◌, ◌++◌, map, replicate, codes}
use mathlib.Core.List.{Memᴰ}
use Rattle.model.specs.Tree.{Entry, Node, Fs, File, Folder, blank, swept, data_weight, name_weight}
use Rattle.model.specs.Calls.{Old, May, New, Call, Open, Close, Read, Write, Resize, Stat, StatOpen, MakeFolder, Remove, RemoveFolder, NextName, Rename, Join, MakeLink, ReadLink, Sync, AFile, AFolder, ALink, Reply, No, Done, Opened, Bytes, Told, Named, State, fresh, does}
use Rattle.model.specs.Answers.{synced, needed4}

-- a call and what it must answer
pub record Step : Type 0 where
  pub call : Call
  pub reply : Reply

infix 70 ◌gives◌
abbrev pub ◌gives◌ : Call → Reply → Step
c gives r = record { call = c; reply = r }

-- what calls answer, one after another, and what they leave
unfoldable pub replies : List Step → State → List Reply
replies [] s = []
replies (c ∷ cs) s = let o = does c.call s in o.reply ∷ replies cs o.state

unfoldable pub after : List Call → State → State
after [] s = s
after (c ∷ cs) s = after cs (does c s).state

-- the trees that may be found after a cut, the latest first
abbrev pub cut_trees : State → List Fs
cut_trees s = map (λ (f : Fs). swept (λ n. false) f) s.could

-- calls on a tree, one after another
pub record Row : Type 0 where
  pub start : Fs
  pub steps : List Step

abbrev pub row_from : Fs → List Step → Row
row_from f cs = record { start = f; steps = cs }

abbrev pub row : List Step → Row
row cs = row_from blank cs

-- calls on a blank tree, and the trees that may be found after a cut then
pub record CutRow : Type 0 where
  pub calls : List Call
  pub trees : List Fs

abbrev pub cut_row : List Call → List Fs → CutRow
cut_row cs fs = record { calls = cs; trees = fs }

abbrev pub tree : ℕ → List Node → Fs
tree next xs = record { next = next; nodes = xs }

abbrev pub file : ℕ → List ℕ → Node
file k bs = record { num = k; body = File bs }

abbrev pub folder : ℕ → ℕ → List Entry → Node
folder k parent es = record { num = k; body = Folder parent es }

abbrev pub name : List ℕ → ℕ → Entry
name n k = record { name = n; node = k }

-- the topmost folder opened so many times, from the handle n on
abbrev pub opened_from : ℕ → ℕ → List Step
opened_from zero n = []
opened_from (suc k) n = Open Old false (codes "/") gives Opened n ∷ opened_from k (suc n)

-- strokes and a byte in turn, each so often
abbrev pub strokes : ℕ → List ℕ
strokes zero = []
strokes (suc n) = 47 ∷ 97 ∷ strokes n

abbrev pub table : List Row
table =
    -- 3 bytes at 5: the file has 8, five of them 0; past the end nothing is read; no bytes change nothing; cut and made longer again
    row
    (Open New true (codes "/a") gives Opened 0 ∷ Write 0 5 (7 ∷ 8 ∷ 9 ∷ []) gives Done ∷ StatOpen 0 gives Told AFile 1 8 1 ∷
    Read 0 0 10 gives Bytes (0 ∷ 0 ∷ 0 ∷ 0 ∷ 0 ∷ 7 ∷ 8 ∷ 9 ∷ []) ∷ Read 0 6 10 gives Bytes (8 ∷ 9 ∷ []) ∷ Read 0 5 2 gives Bytes (7 ∷ 8 ∷ []) ∷ Read 0 8 10 gives Bytes [] ∷
    Write 0 20 [] gives Done ∷ StatOpen 0 gives Told AFile 1 8 1 ∷ Write 0 6 (1 ∷ []) gives Done ∷ Resize 0 7 gives Done ∷ Resize 0 9 gives Done ∷
    Read 0 4 65536 gives Bytes (0 ∷ 7 ∷ 1 ∷ 0 ∷ 0 ∷ []) ∷ []) ∷
    -- removed while it is open: read as before; closed, it is gone; a new file has a new number
    row
    (Open New true (codes "/a") gives Opened 0 ∷ Write 0 0 (7 ∷ 8 ∷ []) gives Done ∷ Remove (codes "/a") gives Done ∷ Stat (codes "/a") gives No 2 ∷
    Read 0 0 10 gives Bytes (7 ∷ 8 ∷ []) ∷ StatOpen 0 gives Told AFile 1 2 0 ∷ Close 0 gives Done ∷ Read 0 0 10 gives No 8 ∷ Stat (codes "/a") gives No 2 ∷
    Open May true (codes "/a") gives Opened 0 ∷ StatOpen 0 gives Told AFile 2 0 1 ∷ []) ∷
    -- a folder that is not empty, a path through a file, strokes and dots
    row
    (MakeFolder (codes "/d") gives Done ∷ Open New true (codes "/d/x") gives Opened 0 ∷ RemoveFolder (codes "/d") gives No 6 ∷ Open Old false (codes "/d/x/y") gives No 3 ∷
    Stat (codes "/d//./x") gives Told AFile 2 0 1 ∷ Stat (codes "/d/x") gives Told AFile 2 0 1 ∷ Stat (codes "d/../d/x//") gives Told AFile 2 0 1 ∷
    Remove (codes "/d/x") gives Done ∷ RemoveFolder (codes "/d") gives Done ∷ Stat (codes "/d") gives No 2 ∷ Stat (codes "/d/x") gives No 2 ∷ []) ∷
    -- no folder goes into itself; a file and a folder go from one folder to another
    row
    (MakeFolder (codes "/d") gives Done ∷ Open New true (codes "/d/x") gives Opened 0 ∷ Rename (codes "/d") (codes "/d/e") gives No 11 ∷
    Rename (codes "/d") (codes "/d/x") gives No 11 ∷ MakeFolder (codes "/d/e") gives Done ∷ Rename (codes "/d") (codes "/d/e/f") gives No 11 ∷
    Rename (codes "/d/x") (codes "/y") gives Done ∷ Stat (codes "/d/x") gives No 2 ∷ Stat (codes "/y") gives Told AFile 2 0 1 ∷
    Rename (codes "/d/e") (codes "/e") gives Done ∷ Stat (codes "/d") gives Told AFolder 1 0 1 ∷ Stat (codes "/e/../y") gives Told AFile 2 0 1 ∷
    Rename (codes "/d") (codes "/e/d") gives Done ∷ Stat (codes "/e/d/..") gives Told AFolder 3 1 1 ∷ Stat (codes "/") gives Told AFolder 0 2 0 ∷
    MakeFolder (codes "/e/d/g") gives Done ∷ RemoveFolder (codes "/e/d/g") gives Done ∷ Stat (codes "/e/d/..") gives Told AFolder 3 1 1 ∷ []) ∷
    -- renamed to a name that is there: what had it loses it, and is gone unless it is open
    row
    (Open New true (codes "/a") gives Opened 0 ∷ Open New true (codes "/b") gives Opened 1 ∷ Write 1 0 (5 ∷ []) gives Done ∷ Rename (codes "/a") (codes "/b") gives Done ∷
    Stat (codes "/a") gives No 2 ∷ Stat (codes "/b") gives Told AFile 1 0 1 ∷ StatOpen 1 gives Told AFile 2 1 0 ∷ Read 1 0 9 gives Bytes (5 ∷ []) ∷ Close 1 gives Done ∷
    MakeFolder (codes "/d") gives Done ∷ MakeFolder (codes "/e") gives Done ∷ MakeFolder (codes "/e/f") gives Done ∷ Rename (codes "/b") (codes "/d") gives No 4 ∷
    Rename (codes "/b") (codes "/e") gives No 4 ∷ Rename (codes "/d") (codes "/b") gives No 3 ∷ Rename (codes "/d") (codes "/e") gives No 6 ∷
    Rename (codes "/e/f") (codes "/d") gives Done ∷ Stat (codes "/d") gives Told AFolder 5 0 1 ∷ Stat (codes "/e") gives Told AFolder 4 0 1 ∷
    Rename (codes "/e") (codes "/e") gives Done ∷ Stat (codes "/e") gives Told AFolder 4 0 1 ∷ []) ∷
    -- a link to itself
    row
    (MakeLink (codes "l") (codes "/l") gives Done ∷ Open Old false (codes "/l") gives No 7 ∷ Open May true (codes "/l") gives No 7 ∷ Stat (codes "/l/x") gives No 7 ∷
    Stat (codes "/l") gives Told ALink 1 1 1 ∷ ReadLink (codes "/l") gives Bytes (codes "l") ∷ Remove (codes "/l") gives Done ∷ Stat (codes "/l") gives No 2 ∷ []) ∷
    -- two names of one node: to rename one to the other changes nothing
    row
    (Open New true (codes "/y") gives Opened 0 ∷ Join (codes "/y") (codes "/z") gives Done ∷ Rename (codes "/y") (codes "/z") gives Done ∷
    Stat (codes "/y") gives Told AFile 1 0 2 ∷ Stat (codes "/z") gives Told AFile 1 0 2 ∷ Close 0 gives Done ∷ Remove (codes "/y") gives Done ∷
    Stat (codes "/z") gives Told AFile 1 0 1 ∷ []) ∷
    -- a link that leads nowhere: no new file in its place, but one where it leads
    row
    (MakeLink (codes "/n") (codes "/l2") gives Done ∷ Open New true (codes "/l2") gives No 5 ∷ Stat (codes "/n") gives No 2 ∷ Open Old false (codes "/l2") gives No 2 ∷
    Open May true (codes "/l2") gives Opened 0 ∷ Stat (codes "/n") gives Told AFile 2 0 1 ∷ Stat (codes "/l2") gives Told ALink 1 2 1 ∷ []) ∷
    -- links are followed on the way, from the folder that they are in; at the end only to open
    row
    (MakeFolder (codes "/d") gives Done ∷ MakeFolder (codes "/d/e") gives Done ∷ Open New true (codes "/d/x") gives Opened 0 ∷
    MakeLink (codes "../x") (codes "/d/e/l") gives Done ∷ MakeLink (codes "d/e") (codes "/m") gives Done ∷ Stat (codes "/m/l") gives Told ALink 4 4 1 ∷
    Open Old false (codes "/m/l") gives Opened 1 ∷ StatOpen 1 gives Told AFile 3 0 1 ∷ Stat (codes "/m") gives Told ALink 5 3 1 ∷ Stat (codes "/m/") gives Told ALink 5 3 1 ∷
    Stat (codes "/m/.") gives Told AFolder 2 1 1 ∷ Stat (codes "/m/../x") gives Told AFile 3 0 1 ∷ Stat (codes "/d/e/l/x") gives No 3 ∷
    Join (codes "/m/l") (codes "/k") gives Done ∷ Stat (codes "/k") gives Told ALink 4 4 2 ∷ ReadLink (codes "/k") gives Bytes (codes "../x") ∷
    ReadLink (codes "/d/x") gives No 9 ∷ ReadLink (codes "/d") gives No 9 ∷ ReadLink (codes "/q") gives No 2 ∷ []) ∷
    -- the eighth link is followed, the ninth is not
    row
    (Open New true (codes "/0") gives Opened 0 ∷ MakeLink (codes "0") (codes "/1") gives Done ∷ MakeLink (codes "1") (codes "/2") gives Done ∷
    MakeLink (codes "2") (codes "/3") gives Done ∷ MakeLink (codes "3") (codes "/4") gives Done ∷ MakeLink (codes "4") (codes "/5") gives Done ∷
    MakeLink (codes "5") (codes "/6") gives Done ∷ MakeLink (codes "6") (codes "/7") gives Done ∷ MakeLink (codes "7") (codes "/8") gives Done ∷
    MakeLink (codes "8") (codes "/9") gives Done ∷ Open Old false (codes "/8") gives Opened 1 ∷ StatOpen 1 gives Told AFile 1 0 1 ∷ Open Old false (codes "/9") gives No 7 ∷ []) ∷
    -- names in their order, after one that is there or not; the first after the empty one; no more at the end
    row
    (Open New true (codes "/b") gives Opened 0 ∷ Open New true (codes "/ab") gives Opened 1 ∷ MakeFolder (codes "/a") gives Done ∷ Open Old false (codes "/") gives Opened 2 ∷
    NextName 2 [] gives Named (codes "a") ∷ NextName 2 (codes "a") gives Named (codes "ab") ∷ NextName 2 (codes "aa") gives Named (codes "ab") ∷
    NextName 2 (codes "ab") gives Named (codes "b") ∷ NextName 2 (codes "b") gives No 2 ∷ NextName 2 (replicate 255 97) gives Named (codes "ab") ∷
    NextName 2 (replicate 256 97) gives No 10 ∷ NextName 0 [] gives No 3 ∷ NextName 3 [] gives No 8 ∷ NextName 3 (replicate 256 97) gives No 10 ∷ []) ∷
    -- the top is its own parent, and has no name
    row
    (Stat (codes "/") gives Told AFolder 0 0 0 ∷ Stat (codes "/..") gives Told AFolder 0 0 0 ∷ MakeFolder (codes "/d") gives Done ∷
    Stat (codes "/../../d/..") gives Told AFolder 0 1 0 ∷ MakeFolder (codes "/") gives No 1 ∷ MakeFolder (codes "/.") gives No 1 ∷ MakeFolder (codes "/d/..") gives No 1 ∷
    RemoveFolder (codes "/") gives No 1 ∷ RemoveFolder (codes "/d/.") gives No 1 ∷ Remove (codes "/d/..") gives No 1 ∷ Rename (codes "/") (codes "/e") gives No 1 ∷
    Rename (codes "/d") (codes "/.") gives No 1 ∷ Rename (codes "/d/.") (codes "/e") gives No 1 ∷ Join (codes "/d") (codes "/") gives No 1 ∷
    MakeLink (codes "d") (codes "/d/..") gives No 1 ∷ Open New true (codes "/") gives No 5 ∷ Open May true (codes "/") gives No 4 ∷ Open May false (codes "/") gives No 4 ∷
    Open Old true (codes "/") gives No 4 ∷ Open Old false (codes "/") gives Opened 0 ∷ Read 0 0 1 gives No 4 ∷ Write 0 0 (1 ∷ []) gives No 9 ∷ []) ∷
    -- what is no path; a component of 255 bytes and a path of 1,024
    row
    (Stat [] gives No 1 ∷ Stat (0 ∷ []) gives No 1 ∷ Stat (256 ∷ []) gives No 1 ∷ Stat (255 ∷ []) gives No 2 ∷ Stat (replicate 256 97) gives No 1 ∷
    Stat (replicate 255 97) gives No 2 ∷ MakeFolder (replicate 255 97) gives Done ∷ Stat (strokes 512) gives No 2 ∷ Stat (47 ∷ strokes 512) gives No 1 ∷
    MakeLink [] (codes "/l") gives No 1 ∷ MakeLink (47 ∷ strokes 512) (codes "/l") gives No 1 ∷ MakeLink (strokes 512) (codes "/l") gives Done ∷
    Stat (codes "/l") gives Told ALink 2 1024 1 ∷ []) ∷
    -- what is not there
    row
    (Open Old false (codes "/n") gives No 2 ∷ Open New true (codes "/n/x") gives No 2 ∷ MakeFolder (codes "/n/x") gives No 2 ∷ Remove (codes "/n") gives No 2 ∷
    RemoveFolder (codes "/n") gives No 2 ∷ Rename (codes "/n") (codes "/m") gives No 2 ∷ Join (codes "/n") (codes "/m") gives No 2 ∷
    MakeLink (codes "m") (codes "/n/l") gives No 2 ∷ Open New true (codes "/a") gives Opened 0 ∷ Rename (codes "/a") (codes "/n/b") gives No 2 ∷
    Join (codes "/a") (codes "/n/b") gives No 2 ∷ Stat (codes "/a") gives Told AFile 1 0 1 ∷ []) ∷
    -- a folder and a file where the other must be; what is there already
    row
    (MakeFolder (codes "/d") gives Done ∷ Open New true (codes "/a") gives Opened 0 ∷ Remove (codes "/d") gives No 4 ∷ RemoveFolder (codes "/a") gives No 3 ∷
    Join (codes "/d") (codes "/e") gives No 4 ∷ Join (codes "/d") (codes "/a") gives No 5 ∷ Open New true (codes "/a") gives No 5 ∷ MakeFolder (codes "/a") gives No 5 ∷
    MakeFolder (codes "/d") gives No 5 ∷ MakeLink [] (codes "/a") gives No 5 ∷ Open Old true (codes "/d") gives No 4 ∷ Open May true (codes "/d") gives No 4 ∷
    Open May true (codes "/a") gives Opened 1 ∷ MakeFolder (codes "/a/x") gives No 3 ∷ []) ∷
    -- handles: the lowest number that is free; only to read; one that is not there
    row
    (Open New true (codes "/a") gives Opened 0 ∷ Open Old false (codes "/a") gives Opened 1 ∷ Open May true (codes "/a") gives Opened 2 ∷ Close 1 gives Done ∷
    StatOpen 1 gives No 8 ∷ Close 1 gives No 8 ∷ Open Old false (codes "/a") gives Opened 1 ∷ Write 1 0 (7 ∷ []) gives No 9 ∷ Write 1 4294967296 (7 ∷ []) gives No 9 ∷
    Resize 1 4294967297 gives No 9 ∷ Resize 1 0 gives No 9 ∷ Write 2 0 (7 ∷ []) gives Done ∷ Read 1 0 1 gives Bytes (7 ∷ []) ∷ Close 0 gives Done ∷ Close 2 gives Done ∷
    Open Old false (codes "/") gives Opened 0 ∷ Read 2 0 1 gives No 8 ∷ Write 2 0 [] gives No 8 ∷ Resize 2 0 gives No 8 ∷ []) ∷
    -- sizes: 65,536 bytes at once, bytes below 256, files of 2 to the 32 bytes
    row
    (Open New true (codes "/a") gives Opened 0 ∷ Read 0 0 65536 gives Bytes [] ∷ Read 0 0 65537 gives No 10 ∷ Read 1 0 65537 gives No 10 ∷ Write 1 0 (256 ∷ []) gives No 10 ∷
    Resize 1 4294967297 gives No 8 ∷ Write 0 0 (255 ∷ []) gives Done ∷ Write 0 0 (256 ∷ []) gives No 10 ∷ Write 0 4294967296 [] gives Done ∷
    Write 0 4294967296 (7 ∷ []) gives No 10 ∷ Write 0 4294967295 (7 ∷ 7 ∷ []) gives No 10 ∷ Resize 0 4294967297 gives No 10 ∷ StatOpen 0 gives Told AFile 1 1 1 ∷
    Sync gives Done ∷ Write 0 0 (replicate 65537 7) gives No 10 ∷ Write 0 0 (replicate 65536 7) gives Done ∷ Write 0 4294967295 (7 ∷ []) gives Done ∷
    Resize 0 4294967296 gives Done ∷ []) ∷
    -- 64 handles
    row
    (opened_from 64 0 ++
    (Open Old false (codes "/") gives No 13 ∷ Open New true [] gives No 13 ∷ Close 7 gives Done ∷ Open Old false (codes "/") gives Opened 7 ∷ [])) ∷
    -- numbers of nodes below 2 to the 63
    row_from (tree 9223372036854775806 (folder 0 0 [] ∷ []))
    (MakeFolder (codes "/d") gives Done ∷ MakeFolder (codes "/e") gives No 10 ∷ MakeFolder (codes "/d") gives No 10 ∷ MakeFolder (codes "/.") gives No 1 ∷
    Open May true (codes "/e") gives No 10 ∷ Open Old false (codes "/") gives No 10 ∷ MakeLink (codes "d") (codes "/e") gives No 10 ∷
    Stat (codes "/d") gives Told AFolder 9223372036854775806 0 1 ∷ []) ∷
    []

-- After a cut: nothing is open, and each call since the last sync may not have been.
abbrev pub cut_table : List CutRow
cut_table =
    -- renamed: under one of the two names, never under both or none
    cut_row (MakeFolder (codes "/d") ∷ Open New true (codes "/d/x") ∷ Sync ∷ Rename (codes "/d/x") (codes "/y") ∷ [])
    (tree 3 (folder 0 0 (name (codes "d") 1 ∷ name (codes "y") 2 ∷ []) ∷ folder 1 0 [] ∷ file 2 [] ∷ []) ∷
    tree 3 (folder 0 0 (name (codes "d") 1 ∷ []) ∷ folder 1 0 (name (codes "x") 2 ∷ []) ∷ file 2 [] ∷ []) ∷ []) ∷
    -- written: as after one of the writes, in their order, or as at the last sync
    cut_row (Open New true (codes "/a") ∷ Write 0 0 (7 ∷ []) ∷ Sync ∷ Write 0 1 (8 ∷ []) ∷ Read 0 0 9 ∷ Write 0 0 (9 ∷ []) ∷ [])
    (tree 2 (folder 0 0 (name (codes "a") 1 ∷ []) ∷ file 1 (9 ∷ 8 ∷ []) ∷ []) ∷
    tree 2 (folder 0 0 (name (codes "a") 1 ∷ []) ∷ file 1 (7 ∷ 8 ∷ []) ∷ []) ∷ tree 2 (folder 0 0 (name (codes "a") 1 ∷ []) ∷ file 1 (7 ∷ []) ∷ []) ∷ []) ∷
    -- synced: as it was then
    cut_row (Open New true (codes "/a") ∷ Write 0 0 (7 ∷ []) ∷ Write 0 1 (8 ∷ []) ∷ Sync ∷ []) (tree 2 (folder 0 0 (name (codes "a") 1 ∷ []) ∷ file 1 (7 ∷ 8 ∷ []) ∷ []) ∷ []) ∷
    -- removed while it is open: there with its name, or gone
    cut_row (Open New true (codes "/a") ∷ Sync ∷ Remove (codes "/a") ∷ Write 0 0 (7 ∷ []) ∷ [])
    (tree 2 (folder 0 0 [] ∷ []) ∷ tree 2 (folder 0 0 [] ∷ []) ∷ tree 2 (folder 0 0 (name (codes "a") 1 ∷ []) ∷ file 1 [] ∷ []) ∷ []) ∷
    []

-- calls on a blank tree; then what the blocks and the names weigh, and four times what is surely enough beside the tree at the last sync
pub record WeightRow : Type 0 where
  pub calls : List Call
  pub blocks : ℕ
  pub names : ℕ
  pub needed : ℕ

abbrev pub weight_row : List Call → (blocks names needed : ℕ) → WeightRow
weight_row cs b n k = record { calls = cs; blocks = b; names = n; needed = k }

abbrev pub weight_table : List WeightRow
weight_table =
    -- the topmost folder is a node too
    weight_row [] 0 512 8400896 ∷
    -- one byte takes a block; 4,096 do, and 4,097 take two; a further name is no node
    weight_row (Open New true (codes "/abc") ∷ Write 0 0 (7 ∷ []) ∷ []) 4096 1091 8428324 ∷
    weight_row (Open New true (codes "/a") ∷ Resize 0 4096 ∷ Sync ∷ Resize 0 4097 ∷ Join (codes "/a") (codes "/bc") ∷ []) 8192 1155 8476976 ∷
    -- a link takes a block, a folder none
    weight_row (MakeFolder (codes "/d") ∷ MakeLink (codes "d") (codes "/l") ∷ []) 4096 1666 8435224 ∷
    -- what is removed while it is open weighs until it is closed
    weight_row (Open New true (codes "/a") ∷ Write 0 0 (7 ∷ []) ∷ Remove (codes "/a") ∷ []) 4096 1024 8427520 ∷
    weight_row (Open New true (codes "/a") ∷ Write 0 0 (7 ∷ []) ∷ Remove (codes "/a") ∷ Close 0 ∷ []) 0 512 8400896 ∷
    []

abbrev pub Answered : Row → Type 0
Answered r = replies r.steps (fresh r.start) ≡ map (λ (c : Step). c.reply) r.steps

abbrev pub Left : CutRow → Type 0
Left r = cut_trees (after r.calls (fresh blank)) ≡ r.trees

abbrev pub Weighed : WeightRow → Type 0
Weighed r = let s = after r.calls (fresh blank) in (data_weight s.now.nodes ≡ r.blocks) × (name_weight s.now.nodes ≡ r.names) × (needed4 s.now (synced s.now s.could) ≡ r.needed)

abbrev pub ExamplesHold : Type 0
ExamplesHold = ((r : Row) → Memᴰ r table → Answered r) × ((r : CutRow) → Memᴰ r cut_table → Left r) × ((r : WeightRow) → Memᴰ r weight_table → Weighed r)

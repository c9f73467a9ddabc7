-- Kinds and owners: which records a command is for, and which record an index names. Assumes nothing.
use Rattle.std.specs.Prelude.{ℕ, Bool, true, false, cond, not, ◌&&◌, ◌||◌, List, Some, None, Option, ◌==◌, nat_le}
use Rattle.text.specs.Number.{number_in}
use Rattle.make.specs.declared.kind.Kind.{Kind}
use Rattle.make.specs.declared.kind.Kind.TheVariants.{System, Site, ChannelGroup, TalkgroupGroup, Channel, Talkgroup, TrunkFrequency}
use Rattle.make.specs.Data.{conventional}
use Rattle.ledger.specs.declared.command.Command.{Command}
use Rattle.ledger.specs.declared.command.Command.TheVariants.{Prg, Epg, Clr, Sct, Sih, Sit, Rmb, Csy, Agc, Ast, Agt, Acc, Act, Dsy, Dgr, Dch, Fwd, Rev, Trn, Sin, Sif, Gin, Cin, Tin, Tfq}
use Rattle.ledger.specs.Limits.{index_digits}
use Rattle.ledger.specs.Ledger.{Store, Holding, holding, living, block_count}

-- the number of a kind
abbrev pub kind_number : Kind → ℕ
kind_number System = 1
kind_number Site = 2
kind_number ChannelGroup = 3
kind_number TalkgroupGroup = 4
kind_number Channel = 5
kind_number Talkgroup = 6
kind_number TrunkFrequency = 7

abbrev pub is_kind : Kind → Holding → Bool
is_kind k h = kind_number k == kind_number h.kind

-- a system of the first type is conventional, any other is trunked
abbrev pub is_conventional : Holding → Bool
is_conventional h = is_kind System h && conventional h.system_type

abbrev pub is_trunked : Holding → Bool
is_trunked h = is_kind System h && not (conventional h.system_type)

-- a site or a group stands under a system, and a channel, a talkgroup or a trunk frequency under one of those
abbrev pub is_middle : Holding → Bool
is_middle h = is_kind Site h || (is_kind ChannelGroup h || is_kind TalkgroupGroup h)

abbrev pub is_low : Holding → Bool
is_low h = is_kind Channel h || (is_kind Talkgroup h || is_kind TrunkFrequency h)

-- whether the command is for such a record
abbrev pub is_for : Command → Holding → Bool
is_for Prg h = false
is_for Epg h = false
is_for Clr h = false
is_for Sct h = false
is_for Sih h = false
is_for Sit h = false
is_for Rmb h = false
is_for Csy h = false
is_for Agc h = is_conventional h
is_for Ast h = is_trunked h
is_for Agt h = is_trunked h
is_for Acc h = is_kind ChannelGroup h || is_kind Site h
is_for Act h = is_kind TalkgroupGroup h
is_for Dsy h = is_kind System h
is_for Dgr h = is_middle h
is_for Dch h = is_low h
is_for Fwd h = true
is_for Rev h = true
is_for Trn h = is_trunked h
is_for Sin h = is_kind System h
is_for Sif h = is_kind Site h
is_for Gin h = is_kind ChannelGroup h || is_kind TalkgroupGroup h
is_for Cin h = is_kind Channel h
is_for Tin h = is_kind Talkgroup h
is_for Tfq h = is_kind TrunkFrequency h

-- the kind of the members in a record's first chain
abbrev pub member_kind : Kind → Kind
member_kind System = ChannelGroup
member_kind Site = TrunkFrequency
member_kind ChannelGroup = Channel
member_kind TalkgroupGroup = Talkgroup
member_kind Channel = Channel
member_kind Talkgroup = Talkgroup
member_kind TrunkFrequency = TrunkFrequency

-- an index has one to five digits and names a block from 1 to the block count
abbrev pub up_to : ℕ → Option ℕ → Option ℕ
up_to n None = None
up_to n (Some i) = cond (nat_le 1 i && nat_le i n) (Some i) None

abbrev pub index_in : ℕ → List ℕ → Option ℕ
index_in n t = up_to n (number_in index_digits t)

-- the block that an index names, if it holds a record that the command is for
abbrev pub meant : Store → Command → Option ℕ → Option ℕ
meant L c None = None
meant L c (Some i) = cond (living L i && is_for c (holding L i)) (Some i) None

abbrev pub target : Store → Command → List ℕ → Option ℕ
target L c t = meant L c (index_in (block_count L) t)

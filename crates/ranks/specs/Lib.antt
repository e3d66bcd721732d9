-- Sets of ranks as numbers: the definitions, and what is shown of them, first of bits, then of members, then of several sets together, then of the first member.
pub mod Ranks
pub mod Bits
pub mod RankLaws
pub mod UnionLaws
pub mod LessOneLaws
pub mod FirstLaws

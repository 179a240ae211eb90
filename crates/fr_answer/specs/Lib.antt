-- what the public contract cites
pub mod Answer
pub mod Request
pub mod FrameAnswer
pub mod FrameText
pub mod LossAnswer
pub mod LossText
pub mod BoundAnswer
pub mod BoundText
pub mod SettleAnswer
pub mod SettleText
pub mod RunAnswer
pub mod SharpJoinText
pub mod SharpText
pub mod SharpSettleText
pub mod Statuses
pub mod Rounds

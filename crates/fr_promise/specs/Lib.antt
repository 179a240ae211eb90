-- what the public contract cites
pub mod Statement
pub mod Files
-- of the sharper precision
pub mod HeldWalks
pub mod JoinedHistories
pub mod SharpFollowing
pub mod SharpGroup
pub mod SharpJoined
pub mod SharpJoining
pub mod SharpListening
pub mod SharpTested
pub mod SharpWay

mod Copied
mod Fed

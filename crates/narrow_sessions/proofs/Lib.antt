mod ForRoom
mod NarrowBytes
mod Behind
mod OnImages
